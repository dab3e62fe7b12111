use Rattle.wq_pool_plan.proofs.Common.{◌≡◌, length, AreTeams}
use Rattle.wq_pool_plan.proofs.teams.Teams.new.Given as goal

-- the seats of so many queues
abbrev pub invariant-loop : goal.invariant-loop
invariant-loop l = (length l.teams.served.items ≡ l.counter) × AreTeams l.fn.plan l.teams
