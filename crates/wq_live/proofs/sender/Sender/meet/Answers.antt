use Rattle.wq_live.proofs.Common.{ap, sym, ◌∙◌, ValueStanding, Bare, sending_in}
use Rattle.wq_live.proofs.Alone.{sender_met, sender_met_sees}
use Rattle.wq_calls.proofs.Sends.{meet_layout}
use Rattle.wq_calls.proofs.Sends.{sees_held}
use Rattle.wq_calls.proofs.Growing.{own_kept}
use Rattle.wq_live.proofs.sender.Sender.meet.Goals as goal

pub invariant_of-self : goal.invariant_of-self
invariant_of-self c = let e = c.meet.ensures.met in
    sender_met e.machine e.sound e.brought c.self.inside.chair c.meet.new.self e.this_fits e.this_is c.self.inside.sent c.self.invariant

pub invariant_of-other : goal.invariant_of-other
invariant_of-other c = let e = c.meet.ensures.met in
    sender_met e.machine e.sound e.brought c.other.inside.chair c.meet.new.other e.that_fits e.that_is c.other.inside.sent c.other.invariant

pub returns-clause-this : goal.returns-clause-this
returns-clause-this c = let e = c.meet.ensures.met in
    sender_met_sees e.machine e.sound e.brought c.self.inside.chair c.meet.new.self e.this_fits e.this_is c.self.inside.sent c.args.self.now c.self.view_is
    c.self.invariant.sends

pub returns-clause-that : goal.returns-clause-that
returns-clause-that c = let e = c.meet.ensures.met in
    sender_met_sees e.machine e.sound e.brought c.other.inside.chair c.meet.new.other e.that_fits e.that_is c.other.inside.sent c.args.other.now
    c.other.view_is c.other.invariant.sends

pub returns-clause-both : goal.returns-clause-both
returns-clause-both c = let e = c.meet.ensures.met in
    ap (λ (x : ValueStanding Bare). x.first.part.seen) e.that_is ∙ sym (ap (λ (x : ValueStanding Bare). x.first.part.seen) e.this_is)

pub returns-clause-layout : goal.returns-clause-layout
returns-clause-layout c = let e = c.meet.ensures.met in
    meet_layout (sending_in 0 c.self.inside.chair c.self.inside.sent) (sending_in 0 c.other.inside.chair c.other.inside.sent) c.args.self.now c.args.other.now
    e.machine e.this_fits.fits e.that_fits.fits c.self.view_is c.other.view_is c.self.invariant.sends c.other.invariant.sends

pub returns-clause-keeps : goal.returns-clause-keeps
returns-clause-keeps c = λ k. sees_held k 0 c.args.self.now _ (returns-clause-this c)

pub returns-clause-own : goal.returns-clause-own
returns-clause-own c = (own_kept 0 c.args.self.now _ (returns-clause-this c), own_kept 0 c.args.other.now _ (returns-clause-that c))
