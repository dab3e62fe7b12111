use Rattle.std.proofs.Common.{◌≡◌, take}
use Rattle.wq_rows.specs.Rows.{HasRead}
use Rattle.wq_rows.proofs.checking.tell_rows.Given as goal

abbrev pub invariant-loop-place : goal.invariant-loop-place
invariant-loop-place l = record {
  read : HasRead (take l.place l.rows) l.checker;
  layout : l.checker.queue.layout ≡ l.fn.checker.queue.layout;
}
