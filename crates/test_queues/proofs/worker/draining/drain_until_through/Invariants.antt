use Rattle.std.proofs.Common.{◌≡◌}
use Rattle.test_queues.proofs.worker.draining.drain_until_through.Given as goal

abbrev pub invariant-loop : goal.invariant-loop
invariant-loop g l = l.worker.queue ≡ l.initial.worker.queue
