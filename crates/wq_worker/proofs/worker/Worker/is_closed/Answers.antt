use Rattle.wq_worker.proofs.Common.{subst, IsLegal, WorkerState}
use Rattle.wq_worker.proofs.worker.Worker.is_closed.Goals as goal

pub returns-clause-legal : goal.returns-clause-legal
returns-clause-legal g c = subst (λ (z : WorkerState g.row.W.Denot). IsLegal z.layout z.seen) c.self.view_is c.self.invariant.legal
