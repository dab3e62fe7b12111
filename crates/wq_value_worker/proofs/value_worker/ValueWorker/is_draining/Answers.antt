use Rattle.wq_value_worker.proofs.Common.{subst, IsDraining, ValueWorkerState}
use Rattle.std.proofs.Common.{◌↔◌, IsTrue}
use Rattle.wq_value_worker.proofs.value_worker.ValueWorker.is_draining.Goals as goal

pub returns-clause-draining : goal.returns-clause-draining
returns-clause-draining g c =
    subst (λ (z : ValueWorkerState _ _). IsTrue c.is_draining.result ↔ IsDraining z.worker.seen) c.self.view_is c.is_draining.ensures.draining
