use Rattle.std.proofs.Common.{◌≡◌}
use Rattle.test_queues.proofs.worker.draining.queue_through.Given as goal

abbrev pub invariant-loop : goal.invariant-loop
invariant-loop g l = l.sender.queue ≡ l.initial.sender.queue
