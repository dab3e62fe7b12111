use Rattle.std.proofs.Common.{length}
use Rattle.wq_value_worker.proofs.Settling.{DealtSofar}
use Rattle.wq_value_worker.proofs.value_steps.queue_pairs.Given as goal

abbrev pub invariant-loop-item : goal.invariant-loop-item
invariant-loop-item g l =
    DealtSofar g.W.ValueWork.log g.W.ValueWork.given g.W.ValueWork.takes l.initial.left.pairs l.left.pairs l.initial.work l.work l.initial.seats l.seats

abbrev pub decreases-loop-item : goal.decreases-loop-item
decreases-loop-item g l = length l.left.pairs
