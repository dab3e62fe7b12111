use Rattle.std.proofs.Common.{refl, ◌∙◌}
use Rattle.test_queues.proofs.worker.crew.queue_own.Goals as goal

pub loop-item-init : goal.loop-item-init
loop-item-init g c = refl

pub loop-item-preserved : goal.loop-item-preserved
loop-item-preserved g c = c.queue_waiting-answer.ensures ∙ c.loop-item.invariant

pub returns : goal.returns
returns g c = c.loop-item.invariant
