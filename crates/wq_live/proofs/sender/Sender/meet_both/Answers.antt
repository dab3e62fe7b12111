use Rattle.wq_live.proofs.Common.{[], ap, sym, ◌∙◌, ValueStanding, Bare, sending_in, owning}
use Rattle.wq_live.proofs.Alone.{sender_met, sender_met_sees, owner_met, owner_met_sees}
use Rattle.wq_calls.proofs.Resting.{complete_stays}
use Rattle.wq_calls.proofs.Sends.{meet_layout}
use Rattle.wq_calls.proofs.Meeting.{meet_owner_layout}
use Rattle.wq_calls.proofs.Sends.{sees_held}
use Rattle.wq_calls.proofs.OwnerStays.{still_owned}
use Rattle.wq_live.proofs.Common.{Known}
use Rattle.wq_calls.proofs.Growing.{own_kept}
use Rattle.wq_live.proofs.sender.Sender.meet_both.Goals as goal

pub meet_both-requires-clause-empty : goal.meet_both-requires-clause-empty
meet_both-requires-clause-empty c = (c.other.invariant.empty, c.owner.invariant.owns.slots.none c.owner.invariant.bare)

pub invariant_of-self : goal.invariant_of-self
invariant_of-self c = let e = c.meet_both.ensures.all in
    sender_met e.machine e.sound e.brought c.self.inside.chair c.meet_both.new.self e.this_fits e.this_is c.self.inside.sent c.self.invariant

pub invariant_of-other : goal.invariant_of-other
invariant_of-other c = let e = c.meet_both.ensures.all in
    sender_met e.machine e.sound e.brought c.other.inside.chair c.meet_both.new.other e.that_fits e.that_is c.other.inside.sent c.other.invariant

pub invariant_of-owner : goal.invariant_of-owner
invariant_of-owner c = let e = c.meet_both.ensures.all in
    owner_met e.machine e.sound e.brought c.owner.inside.seat c.meet_both.new.third e.third_fits e.third_is c.owner.invariant

pub returns-clause-this : goal.returns-clause-this
returns-clause-this c = let e = c.meet_both.ensures.all in
    sender_met_sees e.machine e.sound e.brought c.self.inside.chair c.meet_both.new.self e.this_fits e.this_is c.self.inside.sent c.args.self.now
    c.self.view_is c.self.invariant.sends

pub returns-clause-that : goal.returns-clause-that
returns-clause-that c = let e = c.meet_both.ensures.all in
    sender_met_sees e.machine e.sound e.brought c.other.inside.chair c.meet_both.new.other e.that_fits e.that_is c.other.inside.sent c.args.other.now
    c.other.view_is c.other.invariant.sends

pub returns-clause-owners : goal.returns-clause-owners
returns-clause-owners c = let e = c.meet_both.ensures.all in
    owner_met_sees e.machine e.sound e.brought c.owner.inside.seat c.meet_both.new.third e.third_fits e.third_is c.args.owner.now c.owner.view_is
    c.owner.invariant

pub returns-clause-all : goal.returns-clause-all
returns-clause-all c = let e = c.meet_both.ensures.all in let mine = sym (ap (λ (x : ValueStanding Bare). x.first.part.seen) e.this_is) in
    (ap (λ (x : ValueStanding Bare). x.first.part.seen) e.that_is ∙ mine, ap (λ (x : ValueStanding Bare). x.first.part.seen) e.third_is ∙ mine)

pub returns-clause-layout : goal.returns-clause-layout
returns-clause-layout c = let e = c.meet_both.ensures.all in let s = (sending_in 0 c.self.inside.chair c.self.inside.sent) in (
  meet_layout s (sending_in 0 c.other.inside.chair c.other.inside.sent) c.args.self.now c.args.other.now
      e.machine e.this_fits.fits e.that_fits.fits c.self.view_is c.other.view_is c.self.invariant.sends c.other.invariant.sends,
  meet_owner_layout s (owning c.owner.inside.seat) c.args.self.now c.args.owner.now e.machine e.this_fits.fits
      e.third_fits.fits c.self.view_is c.owner.view_is c.self.invariant.sends c.owner.invariant.owns.queue,
)

pub returns-clause-last : goal.returns-clause-last
returns-clause-last c = complete_stays [] 0 c.args.owner.now _ (returns-clause-owners c)

pub returns-clause-keeps : goal.returns-clause-keeps
returns-clause-keeps c = λ k. sees_held k 0 c.args.self.now _ (returns-clause-this c)

pub returns-clause-owned : goal.returns-clause-owned
returns-clause-owned c = still_owned 0 c.args.owner.now _ (sym (ap (λ (v : Known). v.number) c.owner.view_is)) (returns-clause-owners c)

pub returns-clause-own : goal.returns-clause-own
returns-clause-own c = (
  own_kept 0 c.args.self.now _ (returns-clause-this c),
  own_kept 0 c.args.other.now _ (returns-clause-that c),
  own_kept 0 c.args.owner.now _ (returns-clause-owners c),
)
