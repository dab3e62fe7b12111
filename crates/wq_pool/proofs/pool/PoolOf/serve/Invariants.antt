use Rattle.std.specs.Prelude.{◌<◌, length, IfSome}
use Rattle.wq_pool.proofs.Common.{GoesOnFrom, IsCallerOf}
use Rattle.wq_pool.proofs.pool.PoolOf.serve.Given as goal

abbrev pub invariant-loop : goal.invariant-loop
invariant-loop g l = IsCallerOf l.self.ready l.caller × GoesOnFrom l.initial.caller l.caller × IfSome l.next (λ q. q < length l.self.workers)
