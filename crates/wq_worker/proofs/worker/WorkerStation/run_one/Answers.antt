use Rattle.wq_worker.specs.Works.{runs}
use Rattle.wq_worker.proofs.worker.WorkerStation.run_one.Goals as goal

pub returns-clause-deals : goal.returns-clause-deals
returns-clause-deals g c = runs c.run_one.result c.run_one.ensures.runs
