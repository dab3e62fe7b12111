use Rattle.wq_value_worker.specs.Deals.{runs}
use Rattle.wq_value_worker.proofs.value_worker.ValueWorkerStation.run_one.Goals as goal

pub returns-clause-deals : goal.returns-clause-deals
returns-clause-deals g c = let e = c.run_one.ensures in runs c.run_one.result e.runs e.settles e.learnt
