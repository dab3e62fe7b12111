use Rattle.std.proofs.Common.{refl}
use Rattle.wq_check.proofs.queue.Queue.hold_cause.Goals as goal

pub returns-then-is_pending : goal.returns-then-is_pending
returns-then-is_pending c = λ h o. (c.if-is_pending.ensures h o).0 refl
