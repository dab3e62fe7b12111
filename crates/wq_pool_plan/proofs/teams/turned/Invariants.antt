use Rattle.wq_pool_plan.proofs.Common.{length}
use Rattle.wq_pool_plan.proofs.Seats.{AreTurnedSoFar}
use Rattle.wq_pool_plan.proofs.teams.turned.Given as goal

-- the groups so far are turned
abbrev pub invariant-loop-group : goal.invariant-loop-group
invariant-loop-group l = AreTurnedSoFar (length l.yielded) l.fn.count l.fn.groups.items l.turned.items
