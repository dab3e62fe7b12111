use Rattle.std.proofs.Common.{arith, refl}
use Rattle.wq_check.proofs.Standing.{left-ended}
use Rattle.wq_check.proofs.queue.Queue.resume_cause.Goals as goal

pub returns : goal.returns
returns c = λ h o. ((c.if-not-is_draining.ensures h o).0 refl, (left-ended _ h o).0 (omega (arith, c.if-left_count-gt0.false, c.left_count.ensures h o)))
