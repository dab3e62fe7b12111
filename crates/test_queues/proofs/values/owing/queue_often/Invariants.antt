use Rattle.std.proofs.Common.{◌≡◌}
use Rattle.test_queues.proofs.values.owing.queue_often.Given as goal

abbrev pub invariant-loop-turn : goal.invariant-loop-turn
invariant-loop-turn l = l.sender.known.queue ≡ l.initial.sender.known.queue
