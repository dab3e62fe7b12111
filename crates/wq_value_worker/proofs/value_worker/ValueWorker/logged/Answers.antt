use Rattle.wq_value_worker.proofs.Common.{◌≡◌, ap, ◌∙◌, subst, begun, items_among, numbers_in, ValueWorkerState}
use Rattle.wq_value_worker.proofs.Logged.{begun_items}
use Rattle.wq_value_worker.proofs.value_worker.ValueWorker.logged.Goals as goal

pub returns-clause-numbers : goal.returns-clause-numbers
returns-clause-numbers g c =
    let p = c.self.inside.pair in let fit = c.self.invariant in
    subst (λ (z : ValueWorkerState g.row.V.Denot g.row.W.Denot).
    numbers_in (g.W.ValueWork.log z.worker.work) ≡ items_among z.worker.layout (begun z.worker.seen)) c.self.view_is
    (ap numbers_in fit.logged ∙ begun_items p.known.layout p.known.seen p.brought fit.legal fit.whole c.legal.ensures.values)
