use Rattle.std.specs.Prelude.{◌≡◌}
use Rattle.test_memory.proofs.table.arm_all.Given as goal

abbrev pub invariant-loop-item : goal.invariant-loop-item
invariant-loop-item l = l.delay.sender.queue ≡ l.initial.delay.sender.queue
