use Rattle.wq_value_worker.proofs.Deals.{deals_rest}
use Rattle.wq_value_worker.proofs.value_worker.ValueWorkerStation.rest.Goals as goal

pub returns-clause-deals : goal.returns-clause-deals
returns-clause-deals g c =
    let w = g.W.ValueWork in let e = c.rest.ensures in
    deals_rest w.given w.may w.takes c.args.self.now c.rest.new.self c.rest.result e.events e.work e.pairs e.learnt
