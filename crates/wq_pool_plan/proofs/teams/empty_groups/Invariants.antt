use Rattle.wq_pool_plan.proofs.Common.{◌≡◌, [], length, All}
use Rattle.wq_pool_plan.proofs.teams.empty_groups.Given as goal

-- so many groups, none of which has a sender
abbrev pub invariant-loop : goal.invariant-loop
invariant-loop l = (length l.groups.items ≡ l.counter) × All (λ group. group.senders.items ≡ []) l.groups.items
