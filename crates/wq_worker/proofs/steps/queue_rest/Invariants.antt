use Rattle.std.proofs.Common.{length, ◌-◌, ◌≤◌, drop}
use Rattle.wq_worker.proofs.Follow.{Sofar}
use Rattle.wq_worker.proofs.steps.queue_rest.Given as goal

abbrev pub invariant-loop-at : goal.invariant-loop-at
invariant-loop-at l = (l.at ≤ length l.follow) × Sofar (drop l.initial.at l.follow) (drop l.at l.follow) l.initial.pair l.pair

abbrev pub decreases-loop-at : goal.decreases-loop-at
decreases-loop-at l = length l.follow - l.at
