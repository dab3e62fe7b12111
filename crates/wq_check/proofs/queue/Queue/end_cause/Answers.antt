use Rattle.std.proofs.Common.{◌∙◌, sym}
use Rattle.wq_check.proofs.Standing.{idle-rests}
use Rattle.wq_check.proofs.queue.Queue.end_cause.Goals as goal

pub returns-in-None : goal.returns-in-None
returns-in-None c = λ h o. (idle-rests _ h (rw (← c.self.view_is) at o)).0 c.in-None.is

pub returns-in-Some : goal.returns-in-Some
returns-in-Some c = λ h o. let at = rw (← c.self.view_is) at o in (sym at.running_is ∙ c.in-Some.is, c.if-other-number.true)
