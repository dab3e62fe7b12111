use Rattle.std.proofs.Common.{[], ap, sym}
use Rattle.wq_calls.proofs.Resting.{complete_stays}
use Rattle.wq_values.proofs.ValueSends.{met_values, met_sees, met_learnt, met_owner_values, met_owner_sees, met_owner_learnt}
use Rattle.wq_calls.proofs.HandedOver.{met_handed, met_end}
use Rattle.wq_calls.proofs.OwnerStays.{still_owned}
use Rattle.wq_calls.proofs.OwnBrought.{own_stays}
use Rattle.wq_calls.proofs.Growing.{own_kept}
use Rattle.wq_values.proofs.value_sender.ValueSender.meet_owner.Goals as goal

pub invariant_of-self : goal.invariant_of-self
invariant_of-self g c = let e = c.meet.ensures.met in
    met_values e.machine e.brought e.sound (e.right c.owner.invariant.slots) c.self.inside c.self.invariant c.meet.new.other e.that_fits e.that_knows e.that_is

pub returns-clause-this : goal.returns-clause-this
returns-clause-this g c = let e = c.meet.ensures.met in
    met_sees e.machine e.brought e.sound (e.right c.owner.invariant.slots) c.self.inside c.self.invariant
    c.meet.new.other e.that_fits e.that_knows e.that_is c.args.self.now
    c.self.view_is

pub returns-clause-learnt : goal.returns-clause-learnt
returns-clause-learnt g c = let e = c.meet.ensures.met in
    met_learnt e.machine e.brought e.sound (e.right c.owner.invariant.slots) c.self.inside c.self.invariant
    c.meet.new.other e.that_fits e.that_knows e.that_is c.args.self.now
    c.self.view_is

pub invariant_of-owner : goal.invariant_of-owner
invariant_of-owner g c = let e = c.meet.ensures.met in
    met_owner_values e.machine e.brought e.sound (e.right c.owner.invariant.slots) c.owner.inside c.owner.invariant
    c.meet.new.self e.this_fits e.this_knows e.this_is

pub returns-clause-that : goal.returns-clause-that
returns-clause-that g c = let e = c.meet.ensures.met in
    met_owner_sees e.machine e.brought e.sound (e.right c.owner.invariant.slots) c.owner.inside c.owner.invariant
    c.meet.new.self e.this_fits e.this_knows e.this_is c.args.owner.now
    c.owner.view_is

pub returns-clause-theirs : goal.returns-clause-theirs
returns-clause-theirs g c = let e = c.meet.ensures.met in
    met_owner_learnt e.machine e.brought e.sound (e.right c.owner.invariant.slots) c.owner.inside c.owner.invariant
    c.meet.new.self e.this_fits e.this_knows e.this_is c.args.owner.now c.owner.view_is

pub returns-clause-last : goal.returns-clause-last
returns-clause-last g c = complete_stays [] 0 c.args.owner.now.known _ (returns-clause-that g c)

pub returns-clause-handed : goal.returns-clause-handed
returns-clause-handed g c = met_handed c.args.owner.now _ (sym (ap (λ k. k.known.number) c.owner.view_is)) (returns-clause-that g c)
    (returns-clause-theirs g c)

pub returns-clause-end : goal.returns-clause-end
returns-clause-end g c complete = met_end c.args.owner.now _ (returns-clause-theirs g c) (returns-clause-last g c complete)

pub returns-clause-owned : goal.returns-clause-owned
returns-clause-owned g c = still_owned 0 c.args.owner.now.known _ (sym (ap (λ k. k.known.number) c.owner.view_is)) (returns-clause-that g c)

pub returns-clause-own_values : goal.returns-clause-own_values
returns-clause-own_values g c = (
  own_stays 0 c.args.self.now _ (returns-clause-this g c) (returns-clause-learnt g c),
  own_stays 0 c.args.owner.now _ (returns-clause-that g c) (returns-clause-theirs g c),
)

pub returns-clause-own : goal.returns-clause-own
returns-clause-own g c = (own_kept 0 c.args.self.now.known _ (returns-clause-this g c), own_kept 0 c.args.owner.now.known _ (returns-clause-that g c))
