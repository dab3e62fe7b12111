use Rattle.std.proofs.Common.{◌≤◌, vec_len, vec_capacity}
use Rattle.wq_values.proofs.Common.{◌≡◌, length, map, TableId, value_senders, new_senders, knowing_nothing}
use Rattle.wq_values.proofs.making.seat_value_senders.Given as goal

abbrev pub invariant-loop-chair : goal.invariant-loop-chair
invariant-loop-chair g l = (l.number ≡ length l.yielded) × ((q : TableId) → l.fn.seats.items ≡ value_senders q l.layout l.layout.senders
    → l.senders.items ≡ map knowing_nothing (new_senders q l.layout l.number))
    × (vec_len l.senders ≡ length l.yielded) × (l.layout.senders ≤ vec_capacity l.senders)
