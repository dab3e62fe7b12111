use Rattle.std.proofs.Common.{◌≤◌, vec_len, vec_capacity}
use Rattle.wq_live.proofs.Common.{◌≡◌, length, TableId, value_senders, new_senders}
use Rattle.wq_live.proofs.making.seat_senders.Given as goal

abbrev pub invariant-loop-chair : goal.invariant-loop-chair
invariant-loop-chair l = (l.number ≡ length l.yielded) × ((q : TableId) → l.fn.seats.items ≡ value_senders q l.layout l.layout.senders
    → l.senders.items ≡ new_senders q l.layout l.number)
    × (vec_len l.senders ≡ length l.yielded) × (l.layout.senders ≤ vec_capacity l.senders)
