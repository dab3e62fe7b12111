use Rattle.wq_value_worker.proofs.Common.{subst, IsLegal, ValueWorkerState}
use Rattle.wq_value_worker.proofs.value_worker.ValueWorker.is_closed.Goals as goal

pub returns-clause-legal : goal.returns-clause-legal
returns-clause-legal g c = subst (λ (z : ValueWorkerState _ _). IsLegal z.worker.layout z.worker.seen) c.self.view_is c.self.invariant.legal
