use Rattle.wq_values.specs.Counts.{sender_counts}
use Rattle.wq_values.specs.KnownWith.{KnownWith}
use Rattle.wq_value_worker.proofs.Common.{sym, ap, ◌∙◌, subst, IsComplete, ValueWorkerState}
use Rattle.wq_value_worker.proofs.Logged.{has_run}
use Rattle.wq_value_worker.proofs.value_worker.ValueWorker.into_book.Goals as goal

pub returns-clause-book : goal.returns-clause-book
returns-clause-book g c =
    let n = c.new.ensures in let s = c.split-owner.ensures.sender in let o = c.split-owner.ensures.owner in let is = c.self.view_is in (
      n.queue ∙ (ap (λ (z : KnownWith g.row.V.Denot). z.known.queue) o ∙ ap (λ (z : ValueWorkerState g.row.V.Denot g.row.W.Denot). z.worker.queue) is),
      n.layout ∙ (ap (λ (z : KnownWith g.row.V.Denot). z.known.layout) o ∙ ap (λ (z : ValueWorkerState g.row.V.Denot g.row.W.Denot). z.worker.layout) is),
      n.seen ∙ (ap (λ (z : KnownWith g.row.V.Denot). z.known.seen) o ∙ ap (λ (z : ValueWorkerState g.row.V.Denot g.row.W.Denot). z.worker.seen) is),
      n.number ∙ (ap (λ (z : KnownWith g.row.V.Denot). z.known.number) s ∙ ap (λ (z : ValueWorkerState g.row.V.Denot g.row.W.Denot). z.worker.number) is),
      n.counts ∙ (ap (λ (z : KnownWith g.row.V.Denot). sender_counts z.known.number z.known.seen) s
          ∙ ap (λ (z : ValueWorkerState g.row.V.Denot g.row.W.Denot). sender_counts z.worker.number z.worker.seen) is),
    )

pub returns-clause-ran : goal.returns-clause-ran
returns-clause-ran g c =
    let i = c.self.inside in let p = i.pair in let fit = c.self.invariant in let n = c.new.ensures in let o = c.split-owner.ensures.owner in
    let done : IsComplete p.known.seen = subst (λ (z : ValueWorkerState g.row.V.Denot g.row.W.Denot). IsComplete z.worker.seen)
    (sym c.self.view_is) c.requires in
    has_run p.known.layout p.known.seen p.brought fit.legal fit.whole g.W.ValueWork.log i.work c.new.result.brought c.new.result.book done
    c.legal.ensures.values fit.logged (n.layout ∙ ap (λ (z : KnownWith g.row.V.Denot). z.known.layout) o)
    (n.seen ∙ ap (λ (z : KnownWith g.row.V.Denot). z.known.seen) o) (n.brought ∙ ap (λ (z : KnownWith g.row.V.Denot). z.brought) o)
