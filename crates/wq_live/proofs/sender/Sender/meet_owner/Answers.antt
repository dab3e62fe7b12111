use Rattle.wq_live.proofs.Common.{[], ap, sym, ◌∙◌, ValueStanding, Bare, sending_in, owning, Known}
use Rattle.wq_live.proofs.Alone.{sender_met, sender_met_sees, owner_met, owner_met_sees}
use Rattle.wq_calls.proofs.Resting.{complete_stays}
use Rattle.wq_calls.proofs.Sends.{sender_low}
use Rattle.wq_calls.proofs.Meeting.{meet_owner_layout}
use Rattle.wq_calls.proofs.Sends.{sees_held}
use Rattle.wq_calls.proofs.OwnerStays.{still_owned}
use Rattle.wq_calls.proofs.Growing.{own_kept}
use Rattle.wq_live.proofs.sender.Sender.meet_owner.Goals as goal

pub meet-requires-clause-empty : goal.meet-requires-clause-empty
meet-requires-clause-empty c = c.owner.invariant.owns.slots.none c.owner.invariant.bare

pub invariant_of-self : goal.invariant_of-self
invariant_of-self c = let e = c.meet.ensures.met in
    sender_met e.machine e.sound e.brought c.self.inside.chair c.meet.new.self e.this_fits e.this_is c.self.inside.sent c.self.invariant

pub invariant_of-owner : goal.invariant_of-owner
invariant_of-owner c = let e = c.meet.ensures.met in
    owner_met e.machine e.sound e.brought c.owner.inside.seat c.meet.new.other e.that_fits e.that_is c.owner.invariant

pub returns-clause-this : goal.returns-clause-this
returns-clause-this c = let e = c.meet.ensures.met in
    sender_met_sees e.machine e.sound e.brought c.self.inside.chair c.meet.new.self e.this_fits e.this_is c.self.inside.sent c.args.self.now c.self.view_is
    c.self.invariant.sends

pub returns-clause-that : goal.returns-clause-that
returns-clause-that c = let e = c.meet.ensures.met in
    owner_met_sees e.machine e.sound e.brought c.owner.inside.seat c.meet.new.other e.that_fits e.that_is c.args.owner.now c.owner.view_is c.owner.invariant

pub returns-clause-both : goal.returns-clause-both
returns-clause-both c = let e = c.meet.ensures.met in
    ap (λ (x : ValueStanding Bare). x.first.part.seen) e.that_is ∙ sym (ap (λ (x : ValueStanding Bare). x.first.part.seen) e.this_is)

pub returns-clause-layout : goal.returns-clause-layout
returns-clause-layout c = let e = c.meet.ensures.met in
    meet_owner_layout (sending_in 0 c.self.inside.chair c.self.inside.sent) (owning c.owner.inside.seat) c.args.self.now c.args.owner.now e.machine
    e.this_fits.fits e.that_fits.fits c.self.view_is c.owner.view_is c.self.invariant.sends c.owner.invariant.owns.queue

pub returns-clause-number : goal.returns-clause-number
returns-clause-number c = sender_low (sending_in 0 c.self.inside.chair c.self.inside.sent) c.args.self.now c.self.view_is c.self.invariant.sends

pub returns-clause-seat : goal.returns-clause-seat
returns-clause-seat c = sym (ap (λ (v : Known). v.number) c.owner.view_is)

pub returns-clause-last : goal.returns-clause-last
returns-clause-last c = complete_stays [] 0 c.args.owner.now _ (returns-clause-that c)

pub returns-clause-keeps : goal.returns-clause-keeps
returns-clause-keeps c = λ k. sees_held k 0 c.args.self.now _ (returns-clause-this c)

pub returns-clause-owned : goal.returns-clause-owned
returns-clause-owned c = still_owned 0 c.args.owner.now _ (returns-clause-seat c) (returns-clause-that c)

pub returns-clause-own : goal.returns-clause-own
returns-clause-own c = (own_kept 0 c.args.self.now _ (returns-clause-this c), own_kept 0 c.args.owner.now _ (returns-clause-that c))
