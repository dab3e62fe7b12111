use Rattle.wq_worker.proofs.Common.{◌≡◌, subst, own_totals, WorkerState}
use Rattle.wq_ledger.proofs.Counts.{own_counted}
use Rattle.wq_worker.proofs.worker.Worker.counts.Goals as goal

pub returns : goal.returns
returns g c = let o = c.self.inside.pair in record {
  counted = subst (λ (z : WorkerState g.row.W.Denot). c.of.result ≡ own_totals z.number z.seen) c.self.view_is
      (own_counted o.number o.seen c.sender_counts.result c.owner_counts.result c.of.result c.sender_counts.ensures.counted
      c.owner_counts.ensures.counted c.of.ensures.sums);
}
