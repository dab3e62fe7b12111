use Rattle.std.proofs.Common.{◌≡◌}
use Rattle.bench_queue.proofs.owner.queue_all.Given as goal

abbrev pub invariant-loop-item : goal.invariant-loop-item
invariant-loop-item l = l.sender.queue ≡ l.initial.sender.queue
