use Rattle.std.proofs.Common.{◌≡◌}
use Rattle.test_queues.proofs.values.serving.queue_own.Given as goal

abbrev pub invariant-loop-item : goal.invariant-loop-item
invariant-loop-item g l = l.sender.known.queue ≡ l.initial.sender.known.queue
