use Rattle.wq_script.proofs.Common.{◌-◌, ends_at}
use Rattle.wq_script.proofs.Running.{RowSoFar}
use Rattle.wq_script.proofs.executing.execute_row.Given as goal

abbrev pub invariant-loop : goal.invariant-loop
invariant-loop l = RowSoFar (ends_at l.last) l.limit (l.limit - l.counter) l.fn.worker l.worker l.ran.items
