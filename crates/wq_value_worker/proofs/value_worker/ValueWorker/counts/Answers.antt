use Rattle.wq_value_worker.proofs.Common.{◌≡◌, subst, own_totals, ValueWorkerState}
use Rattle.wq_ledger.proofs.Counts.{own_counted}
use Rattle.wq_value_worker.proofs.value_worker.ValueWorker.counts.Goals as goal

pub returns : goal.returns
returns g c = let o = c.self.inside.pair.known in record {
  counted = subst (λ (z : ValueWorkerState g.row.V.Denot g.row.W.Denot). c.of.result ≡ own_totals z.worker.number z.worker.seen) c.self.view_is
      (own_counted o.number o.seen c.sender_counts.result c.owner_counts.result c.of.result c.sender_counts.ensures.counted
      c.owner_counts.ensures.counted c.of.ensures.sums);
}
