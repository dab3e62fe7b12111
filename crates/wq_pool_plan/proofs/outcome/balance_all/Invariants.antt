use Rattle.wq_pool_plan.proofs.Common.{◌≡◌, ◌+◌, ◌≤◌, List, length, take, Plan, WorkerId, AreFinished, AllSent}
use Rattle.wq_pool_plan.specs.Outcome.{QueueRun, TellsRuns}
use Rattle.wq_pool_plan.proofs.outcome.balance_all.Given as goal

-- the queues from the last down to here are told of
abbrev pub invariant-loop-work : goal.invariant-loop-work
invariant-loop-work l = record {
  within : length l.finished.items ≤ length l.fn.finished.items;
  finished_are : l.finished.items ≡ take (length l.finished.items) l.fn.finished.items;
  groups_are : l.by_queue.items ≡ take (length l.finished.items) l.fn.by_queue.items;
  programs_are : l.programs.items ≡ take (length l.finished.items) l.fn.programs.items;
  told : (plan : Plan) (ids : List WorkerId) → AreFinished (λ w. w.ran.items) ids l.fn.finished.items → AllSent plan ids l.fn.by_queue.items l.fn.programs.items
      → (runs : List QueueRun) × (length runs + length l.finished.items ≡ length ids) × TellsRuns plan runs l.all;
}

abbrev pub decreases-loop-work : goal.decreases-loop-work
decreases-loop-work l = length l.finished.items
