use Rattle.std.proofs.Common.{All}
use Rattle.wq_ready.specs.Known.{IsCallerOf}
use Rattle.bench_queue.proofs.pool.feeders.Given as goal

abbrev pub invariant-loop-sender : goal.invariant-loop-sender
invariant-loop-sender l = All (IsCallerOf l.pool.ready) l.callers.items
