use Rattle.wq_machine.proofs.Stored.{stored_back}
use Rattle.wq_machine.proofs.machine.Core.back.Goals as goal

pub invariant_of-self-2 : goal.invariant_of-self-2
invariant_of-self-2 c =
    let made = rw (← c.self.view_is) at c.requires in
    rw (c.in_ok-push.ensures.items, c.item_place.ensures.place, c.unlinked.ensures, c.private_at-seat.ensures, c.deref.ensures.value)
    (stored_back _ _ _ c.self.invariant c.args.sender c.args.number c.args.why made.0.0.0 made.0.1 made.1.0 made.1.1)
