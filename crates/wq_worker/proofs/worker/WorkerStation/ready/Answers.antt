use Rattle.wq_worker.specs.Step.{stays}
use Rattle.wq_worker.proofs.Works.{works_ready}
use Rattle.wq_worker.proofs.worker.WorkerStation.ready.Goals as goal

pub returns-clause-deals : goal.returns-clause-deals
returns-clause-deals g c =
    let e = c.ready.ensures in works_ready g.W.Work.may stays c.args.self.now c.ready.new.self c.ready.result e.legal e.outcome
