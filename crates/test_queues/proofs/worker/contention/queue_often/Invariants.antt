use Rattle.std.proofs.Common.{◌≡◌}
use Rattle.test_queues.proofs.worker.contention.queue_often.Given as goal

abbrev pub invariant-loop-turn : goal.invariant-loop-turn
invariant-loop-turn g l = l.sender.queue ≡ l.initial.sender.queue
