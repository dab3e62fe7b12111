use Rattle.wq_check.proofs.Standing.{is-closed}
use Rattle.wq_check.proofs.queue.Queue.close_cause.Goals as goal

pub returns-then-self : goal.returns-then-self
returns-then-self c = λ h o. (is-closed _ h (rw (← c.self.view_is) at o)).0 c.if-self.true
