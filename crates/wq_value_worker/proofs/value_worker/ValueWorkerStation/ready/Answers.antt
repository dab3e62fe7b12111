use Rattle.wq_value_worker.proofs.Deals.{deals_ready}
use Rattle.wq_value_worker.proofs.value_worker.ValueWorkerStation.ready.Goals as goal

pub returns-clause-deals : goal.returns-clause-deals
returns-clause-deals g c =
    let w = g.W.ValueWork in let e = c.ready.ensures in
    deals_ready w.given w.may w.takes c.args.self.now c.ready.new.self c.ready.result c.legal.ensures.legal e.outcome e.pairs e.learnt
