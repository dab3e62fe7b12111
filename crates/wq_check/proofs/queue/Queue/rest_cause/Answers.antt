use Rattle.std.proofs.Common.{arith}
use Rattle.wq_check.proofs.Standing.{rest_too, left-ended}
use Rattle.wq_check.proofs.queue.Queue.rest_cause.Goals as goal

pub returns-in-Some : goal.returns-in-Some
returns-in-Some c = λ h o. rest_too h c.in-Some.cause (c.in-Some.ensures.take h o)

pub returns-then-left_count-gt0 : goal.returns-then-left_count-gt0
returns-then-left_count-gt0 c = λ h o. (
  c.in_default.ensures.take h o,
  λ same. absurd (omega (arith, c.if-left_count-gt0.true, c.left_count.ensures h o, (left-ended _ h o).1 same)),
)

pub returns : goal.returns
returns c = λ h o. (c.in_default.ensures.take h o, (left-ended _ h o).0 (omega (arith, c.if-left_count-gt0.false, c.left_count.ensures h o)))
