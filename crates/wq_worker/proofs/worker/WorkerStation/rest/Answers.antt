use Rattle.wq_worker.specs.Step.{stays}
use Rattle.wq_worker.proofs.Works.{works_rest}
use Rattle.wq_worker.proofs.worker.WorkerStation.rest.Goals as goal

pub returns-clause-deals : goal.returns-clause-deals
returns-clause-deals g c =
    let e = c.rest.ensures in works_rest g.W.Work.may stays c.args.self.now c.rest.new.self c.rest.result e.events e.work
