use Rattle.wq_value_worker.proofs.Common.{◌<◌, subst, IsLegal, ValueWorkerState, owner_in}
use Rattle.wq_values.specs.KnownWith.{MatchesAccepted}
use Rattle.wq_value_worker.proofs.value_worker.ValueWorker.legal.Goals as goal

pub returns-clause-legal : goal.returns-clause-legal
returns-clause-legal g c = subst (λ (z : ValueWorkerState _ _). IsLegal z.worker.layout z.worker.seen) c.self.view_is c.self.invariant.legal

pub returns-clause-matches : goal.returns-clause-matches
returns-clause-matches g c =
    subst (λ (z : ValueWorkerState g.row.V.Denot g.row.W.Denot). MatchesAccepted (owner_in z)) c.self.view_is c.self.invariant.whole

pub returns-clause-low : goal.returns-clause-low
returns-clause-low g c =
    subst (λ (z : ValueWorkerState g.row.V.Denot g.row.W.Denot). z.worker.number < z.worker.layout.senders) c.self.view_is c.self.invariant.numbered
