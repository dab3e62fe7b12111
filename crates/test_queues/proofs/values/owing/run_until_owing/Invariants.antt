use Rattle.std.proofs.Common.{◌≡◌}
use Rattle.test_queues.proofs.values.owing.run_until_owing.Given as goal

abbrev pub invariant-loop : goal.invariant-loop
invariant-loop g l =
    (l.worker.worker.queue ≡ l.initial.worker.worker.queue) × (l.first.known.queue ≡ l.initial.first.known.queue)
    × (l.second.known.queue ≡ l.initial.second.known.queue)
