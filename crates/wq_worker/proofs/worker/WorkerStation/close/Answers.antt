use Rattle.wq_worker.proofs.Common.{[], ◌∷◌, Close}
use Rattle.wq_worker.specs.Works.{a_close, keeps}
use Rattle.wq_worker.proofs.worker.WorkerStation.close.Goals as goal

pub returns-clause-deals : goal.returns-clause-deals
returns-clause-deals g c = let e = c.close.ensures in keeps (Close ∷ []) a_close e.events e.work
