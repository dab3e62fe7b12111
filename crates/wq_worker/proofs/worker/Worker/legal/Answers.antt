use Rattle.wq_worker.proofs.Common.{◌<◌, subst, IsLegal, WorkerState}
use Rattle.wq_words.specs.Headline.{KeepsHeadline}
use Rattle.wq_words.proofs.Headlines.{keeps_headline}
use Rattle.wq_worker.proofs.worker.Worker.legal.Goals as goal

pub returns-clause-legal : goal.returns-clause-legal
returns-clause-legal g c = subst (λ (z : WorkerState g.row.W.Denot). IsLegal z.layout z.seen) c.self.view_is c.self.invariant.legal

pub returns-clause-headline : goal.returns-clause-headline
returns-clause-headline g c =
    let o = c.self.inside.pair in
    subst (λ (z : WorkerState g.row.W.Denot). KeepsHeadline z.seen) c.self.view_is (keeps_headline o.layout o.seen c.self.invariant.legal)

pub returns-clause-low : goal.returns-clause-low
returns-clause-low g c = subst (λ (z : WorkerState g.row.W.Denot). z.number < z.layout.senders) c.self.view_is c.self.invariant.numbered
