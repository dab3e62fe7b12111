use Rattle.std.proofs.Common.{◌≡◌}
use Rattle.test_queues.proofs.worker.draining.queue_own.Given as goal

abbrev pub invariant-loop-item : goal.invariant-loop-item
invariant-loop-item g l = l.sender.queue ≡ l.initial.sender.queue
