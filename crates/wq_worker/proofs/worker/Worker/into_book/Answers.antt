use Rattle.wq_worker.proofs.Common.{◌≡◌, sym, ap, ◌∙◌, subst, accepted, IsComplete, Known, WorkerState, items_among}
use Rattle.wq_live.specs.Counts.{sender_counts}
use Rattle.wq_worker.proofs.Draining.{begun-complete}
use Rattle.wq_worker.proofs.worker.Worker.into_book.Goals as goal

pub new-requires-clause-complete : goal.new-requires-clause-complete
new-requires-clause-complete g c = subst (λ (k : Known). IsComplete k.seen) (sym c.split-owner.ensures.owner)
    (subst (λ (z : WorkerState g.row.W.Denot). IsComplete z.seen) (sym c.self.view_is) c.requires)

pub returns-clause-book : goal.returns-clause-book
returns-clause-book g c =
    let n = c.new.ensures in let s = c.split-owner.ensures.sender in let o = c.split-owner.ensures.owner in let is = c.self.view_is in (
      n.queue ∙ (ap (λ (z : Known). z.queue) o ∙ ap (λ (z : WorkerState g.row.W.Denot). z.queue) is),
      n.layout ∙ (ap (λ (z : Known). z.layout) o ∙ ap (λ (z : WorkerState g.row.W.Denot). z.layout) is),
      n.seen ∙ (ap (λ (z : Known). z.seen) o ∙ ap (λ (z : WorkerState g.row.W.Denot). z.seen) is),
      n.number ∙ (ap (λ (z : Known). z.number) s ∙ ap (λ (z : WorkerState g.row.W.Denot). z.number) is),
      n.counts ∙ (ap (λ (z : Known). sender_counts z.number z.seen) s
          ∙ ap (λ (z : WorkerState g.row.W.Denot). sender_counts z.number z.seen) is),
    )

pub returns-clause-logged : goal.returns-clause-logged
returns-clause-logged g c =
    let i = c.self.inside in
    let done : IsComplete i.pair.seen = subst (λ (z : WorkerState g.row.W.Denot). IsComplete z.seen) (sym c.self.view_is) c.requires in
    let told : g.W.Work.log i.work ≡ items_among i.pair.layout (accepted i.pair.seen) =
    c.self.invariant.logged ∙ ap (items_among i.pair.layout)
    (begun-complete i.pair.layout i.pair.seen c.self.invariant.legal done) in
    subst (λ (z : WorkerState g.row.W.Denot). g.W.Work.log i.work ≡ items_among z.layout (accepted z.seen)) c.self.view_is told
