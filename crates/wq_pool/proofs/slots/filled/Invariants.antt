use Rattle.wq_pool.proofs.Common.{◌≡◌, ◌≤◌, map, length, vec_len, vec_capacity, Some}
use Rattle.wq_pool.proofs.slots.filled.Given as goal

abbrev pub invariant-loop-queue : goal.invariant-loop-queue
invariant-loop-queue g l =
    (goal.iterator-loop-queue g).can_next l.queue-iterator × (goal.iterator-loop-queue g).is_finite l.queue-iterator
    × (l.slots.items ≡ map Some l.yielded) × (vec_len l.slots ≡ length l.yielded) × (vec_len l.fn.queues ≤ vec_capacity l.slots)
