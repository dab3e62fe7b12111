use Rattle.wq_pool.proofs.Common.{◌≡◌}
use Rattle.wq_pool.proofs.pool.PoolOf.wake.Given as goal

abbrev pub invariant-loop : goal.invariant-loop
invariant-loop g l = l.caller ≡ l.initial.caller
