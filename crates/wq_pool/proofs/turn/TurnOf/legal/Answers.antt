use Rattle.wq_pool.proofs.Common.{subst, IsLegal, TurnState}
use Rattle.wq_pool.proofs.turn.TurnOf.legal.Goals as goal

pub returns-clause-legal : goal.returns-clause-legal
returns-clause-legal g c =
    let state = g.K.Station.state in
    subst (λ (t : TurnState _). IsLegal (state t.worker).layout (state t.worker).seen) c.self.view_is c.legal.ensures.legal
