use Rattle.std.proofs.Common.{◌≡◌}
use Rattle.test_queues.proofs.values.owing.run_beside.Given as goal

abbrev pub invariant-loop : goal.invariant-loop
invariant-loop g l = l.worker.worker.queue ≡ l.initial.worker.worker.queue
