use Rattle.std.proofs.Common.{◌≡◌}
use Rattle.test_queues.proofs.worker.contention.serve_until_owing.Given as goal

abbrev pub invariant-loop : goal.invariant-loop
invariant-loop g l =
    (l.worker.queue ≡ l.initial.worker.queue) × (l.first.queue ≡ l.initial.first.queue) × (l.second.queue ≡ l.initial.second.queue)
