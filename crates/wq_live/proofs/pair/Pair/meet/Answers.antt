use Rattle.wq_live.proofs.Common.{ap, sym, ◌∙◌, ValueStanding, learns_meet, Bare, sending_in, owning, pair_owner}
use Rattle.wq_calls.proofs.Meeting.{meet_owner_layout}
use Rattle.wq_live.proofs.Alone.{sender_met, sender_met_sees}
use Rattle.wq_calls.proofs.InOneSeat.{seats_meet, owner_meets, sender_meets}
use Rattle.wq_live.proofs.PlainPaired.{pair_after}
use Rattle.wq_calls.proofs.OwnerStays.{still_owned}
use Rattle.wq_live.proofs.Common.{refl}
use Rattle.wq_calls.proofs.Growing.{own_kept}
use Rattle.wq_live.proofs.pair.Pair.meet.Goals as goal

pub invariant_of-self : goal.invariant_of-self
invariant_of-self c = let s = c.self.inside in let that = c.sender.inside.chair in let now = c.meet.new.self in
    pair_after s c.self.invariant 0 (record { seat = record s.seat { chair = now }; sent = s.sent })
    (learns_meet s.seat.chair that now c.meet.new.other c.meet.ensures.met)
    (seats_meet s.seat now that c.meet.new.other s.sent c.self.invariant.seated c.meet.ensures.met)

pub invariant_of-sender : goal.invariant_of-sender
invariant_of-sender c = let e = c.meet.ensures.met in
    sender_met e.machine e.sound e.brought c.sender.inside.chair c.meet.new.other e.that_fits e.that_is c.sender.inside.sent c.sender.invariant

pub returns-clause-owner : goal.returns-clause-owner
returns-clause-owner c = let s = c.self.inside in
    owner_meets s.seat c.meet.new.self c.sender.inside.chair c.meet.new.other s.sent c.self.invariant.seated c.meet.ensures.met c.args.self.now c.self.view_is

pub returns-clause-sender : goal.returns-clause-sender
returns-clause-sender c = let s = c.self.inside in
    sender_meets s.seat c.meet.new.self c.sender.inside.chair c.meet.new.other s.sent c.self.invariant.seated c.meet.ensures.met c.args.self.now c.self.view_is

pub returns-clause-that : goal.returns-clause-that
returns-clause-that c = let e = c.meet.ensures.met in
    sender_met_sees e.machine e.sound e.brought c.sender.inside.chair c.meet.new.other e.that_fits e.that_is c.sender.inside.sent c.args.sender.now
    c.sender.view_is c.sender.invariant.sends

pub returns-clause-both : goal.returns-clause-both
returns-clause-both c = let e = c.meet.ensures.met in
    ap (λ (x : ValueStanding Bare). x.first.part.seen) e.that_is ∙ sym (ap (λ (x : ValueStanding Bare). x.first.part.seen) e.this_is)

pub returns-clause-layout : goal.returns-clause-layout
returns-clause-layout c = let e = c.meet.ensures.met in sym
    (meet_owner_layout (sending_in 0 c.sender.inside.chair c.sender.inside.sent) (owning c.self.inside.seat) c.args.sender.now (pair_owner c.args.self.now)
    e.machine e.that_fits.fits e.this_fits.fits c.sender.view_is (ap pair_owner c.self.view_is) c.sender.invariant.sends
    c.self.invariant.seated.owns.queue)

pub returns-clause-owned : goal.returns-clause-owned
returns-clause-owned c = still_owned 0 (pair_owner c.args.self.now) _ refl (returns-clause-owner c)

pub returns-clause-own : goal.returns-clause-own
returns-clause-own c = own_kept 0 c.args.sender.now _ (returns-clause-that c)
