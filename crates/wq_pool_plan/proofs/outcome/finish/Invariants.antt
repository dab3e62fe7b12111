use Rattle.wq_pool_plan.proofs.Common.{◌≡◌}
use Rattle.wq_pool_plan.proofs.outcome.finish.Given as goal

-- the same pool came back
abbrev pub invariant-loop : goal.invariant-loop
invariant-loop g l = l.pool ≡ l.fn.pool
