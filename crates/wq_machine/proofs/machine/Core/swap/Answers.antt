use Rattle.wq_machine.proofs.Stored.{stored_swap}
use Rattle.wq_machine.proofs.machine.Core.swap.Goals as goal

pub invariant_of-self-2 : goal.invariant_of-self-2
invariant_of-self-2 c =
    let may = rw (← c.self.view_is) at c.requires in
    rw (c.in_ok-push.ensures.items, c.item_of-self-inside.ensures.item, c.head_at-found.ensures.head, c.word.ensures, c.deref.ensures.value)
    (stored_swap _ _ _ c.self.invariant c.args.new c.args.event may)
