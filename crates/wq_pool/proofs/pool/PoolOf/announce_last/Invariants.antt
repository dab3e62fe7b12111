use Rattle.wq_pool.proofs.Common.{GoesOnFrom, IsCallerOf}
use Rattle.wq_pool.proofs.pool.PoolOf.announce_last.Given as goal

abbrev pub invariant-loop : goal.invariant-loop
invariant-loop g l = IsCallerOf l.self.ready l.caller × GoesOnFrom l.initial.caller l.caller
