use Rattle.wq_turn.proofs.Common.{ap, subst, IsLegal, WorkerState}
use Rattle.wq_turn.proofs.served.ServedOf.legal.Goals as goal

pub returns-clause-legal : goal.returns-clause-legal
returns-clause-legal g c =
    subst (λ (w : WorkerState g.row.K-Work.Denot). IsLegal w.layout w.seen) (ap g.K.Station.state c.self.view_is) c.legal.ensures.legal
