use Rattle.wq_values.proofs.Common.{refl, ap, sym, learns_meet, learns_right, sending_in, owning, pair_owner, owner_of}
use Rattle.wq_calls.proofs.Meeting.{meet_owner_layout}
use Rattle.wq_calls.proofs.ValueSeats.{owner_learnt}
use Rattle.wq_values.proofs.ValueSends.{met_values, met_sees, met_learnt}
use Rattle.wq_calls.proofs.HandedOver.{met_handed}
use Rattle.wq_calls.proofs.InOneSeat.{seats_meet, owner_meets, sender_meets}
use Rattle.wq_values.proofs.ValuePaired.{values_after}
use Rattle.wq_calls.proofs.OwnerStays.{still_owned}
use Rattle.wq_calls.proofs.Growing.{own_kept}
use Rattle.wq_calls.proofs.OwnBrought.{own_stays}
use Rattle.wq_values.proofs.value_pair.ValuePair.meet.Goals as goal

pub invariant_of-self : goal.invariant_of-self
invariant_of-self g c = let s = c.self.inside in let that = c.sender.inside.chair in let now = c.meet.new.self in let e = c.meet.ensures.met in
    let l = learns_meet s.seat.chair that now c.meet.new.other e in
    values_after s c.self.invariant 0 (record { seat = record s.seat { chair = now }; sent = s.sent }) l
    (seats_meet s.seat now that c.meet.new.other s.sent c.self.invariant.seated e) (learns_right 0 s.seat.chair now l refl c.self.invariant.slots)

pub invariant_of-sender : goal.invariant_of-sender
invariant_of-sender g c = let e = c.meet.ensures.met in
    met_values e.machine e.brought e.sound (e.right c.self.invariant.slots) c.sender.inside c.sender.invariant c.meet.new.other e.that_fits e.that_knows
    e.that_is

pub returns-clause-owner : goal.returns-clause-owner
returns-clause-owner g c = let s = c.self.inside in
    owner_meets s.seat c.meet.new.self c.sender.inside.chair c.meet.new.other s.sent c.self.invariant.seated c.meet.ensures.met c.args.self.now.known
    (ap (λ p. p.known) c.self.view_is)

pub returns-clause-sender : goal.returns-clause-sender
returns-clause-sender g c = let s = c.self.inside in
    sender_meets s.seat c.meet.new.self c.sender.inside.chair c.meet.new.other s.sent c.self.invariant.seated c.meet.ensures.met c.args.self.now.known
    (ap (λ p. p.known) c.self.view_is)

pub returns-clause-that : goal.returns-clause-that
returns-clause-that g c = let e = c.meet.ensures.met in
    met_sees e.machine e.brought e.sound (e.right c.self.invariant.slots) c.sender.inside c.sender.invariant c.meet.new.other e.that_fits e.that_knows
    e.that_is c.args.sender.now c.sender.view_is

pub returns-clause-theirs : goal.returns-clause-theirs
returns-clause-theirs g c = let e = c.meet.ensures.met in
    met_learnt e.machine e.brought e.sound (e.right c.self.invariant.slots) c.sender.inside c.sender.invariant c.meet.new.other e.that_fits e.that_knows
    e.that_is c.args.sender.now c.sender.view_is

pub returns-clause-learnt : goal.returns-clause-learnt
returns-clause-learnt g c = let s = c.self.inside in let now = c.meet.new.self in
    owner_learnt 0 s.seat (record s.seat { chair = now }) (learns_meet s.seat.chair c.sender.inside.chair now c.meet.new.other c.meet.ensures.met)
    c.self.invariant.known (owner_of c.args.self.now) (ap owner_of c.self.view_is)

pub returns-clause-handed : goal.returns-clause-handed
returns-clause-handed g c = met_handed (owner_of c.args.self.now) _ refl (returns-clause-owner g c) (returns-clause-learnt g c)

pub returns-clause-layout : goal.returns-clause-layout
returns-clause-layout g c = let e = c.meet.ensures.met in sym
    (meet_owner_layout (sending_in 0 c.sender.inside.chair c.sender.inside.sent) (owning c.self.inside.seat) c.args.sender.now.known
    (pair_owner c.args.self.now.known) e.machine e.that_fits.fits e.this_fits.fits (ap (λ k. k.known) c.sender.view_is)
    (ap (λ p. pair_owner p.known) c.self.view_is) c.sender.invariant.sends c.self.invariant.seated.owns.queue)

pub returns-clause-owned : goal.returns-clause-owned
returns-clause-owned g c = still_owned 0 (pair_owner c.args.self.now.known) _ refl (returns-clause-owner g c)

pub returns-clause-own : goal.returns-clause-own
returns-clause-own g c = own_kept 0 c.args.sender.now.known _ (returns-clause-that g c)

pub returns-clause-own_values : goal.returns-clause-own_values
returns-clause-own_values g c = own_stays 0 c.args.sender.now _ (returns-clause-that g c) (returns-clause-theirs g c)
