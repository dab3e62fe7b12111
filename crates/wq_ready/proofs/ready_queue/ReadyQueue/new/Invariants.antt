use Rattle.wq_ready.proofs.Common.{◌≡◌, ◌-◌, [], view, IsPassOf, new_callers, ready_part}
use Rattle.wq_ready.proofs.ready_queue.ReadyQueue.new.Given as goal

abbrev pub ghosts-tell_size : goal.ghosts-tell_size
ghosts-tell_size a = record { size = a.size }

abbrev pub invariant-loop-number : goal.invariant-loop-number
invariant-loop-number l =
    IsPassOf l.numbers l.pass × (view l.pass ≡ ready_part l.size l.number (l.size.callers - l.number) [])
    × (l.callers.items ≡ new_callers (record { id = l.numbers.table.shared.table_id; size = l.size }) l.number)
