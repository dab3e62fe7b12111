use Rattle.std.specs.Prelude.{◌<◌, length, IfSome}
use Rattle.wq_pool.proofs.Common.{IsCallerOf, GoesOnFrom, IsTurnOf}
use Rattle.wq_pool.proofs.pool.PoolOf.work_share.Given as goal

abbrev pub invariant-loop : goal.invariant-loop
invariant-loop g l = IsCallerOf l.self.ready l.caller × GoesOnFrom l.initial.caller l.caller × IsTurnOf g.K.Station.state g.K.Station.deals l.self l.turn
    × IfSome l.next (λ q. q < length l.self.workers)
