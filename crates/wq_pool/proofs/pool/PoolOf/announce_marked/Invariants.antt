use Rattle.wq_pool.proofs.Common.{GoesOnFrom, IsCallerOf}
use Rattle.wq_pool.proofs.pool.PoolOf.announce_marked.Given as goal

abbrev pub invariant-loop-queue : goal.invariant-loop-queue
invariant-loop-queue g l = IsCallerOf l.self.ready l.caller × GoesOnFrom l.initial.caller l.caller
