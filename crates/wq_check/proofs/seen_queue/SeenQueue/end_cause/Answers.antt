use Rattle.wq_check.proofs.Looking.{idle-rests}
use Rattle.wq_check.proofs.seen_queue.SeenQueue.end_cause.Goals as goal

pub returns-in-None : goal.returns-in-None
returns-in-None c = λ t o. (idle-rests _ t (rw (← c.self.view_is) at o)).0 c.in-None.is
