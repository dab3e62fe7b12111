use Rattle.wq_pool.proofs.Common.{◌≡◌, ◌≤◌, length, vec_len, vec_capacity, AreFirst, LeavesOf, WereDrained}
use Rattle.wq_pool.proofs.finish.gather.Given as goal

abbrev pub invariant-loop-queue : goal.invariant-loop-queue
invariant-loop-queue g l =
    let k = g.K.Station in
    AreFirst k.state k.deals l.slots l.all.items × (vec_len l.all ≡ l.queue) × (length l.slots.workers ≤ vec_capacity l.all)
    × WereDrained k.state k.may k.gives k.deals l.fn.limit l.slots.workers l.slots.states l.all.items
    × LeavesOf k.state k.may k.gives k.deals l.fn.limit l.slots.workers l.slots.states l.all.items l.left
