use Rattle.wq_pool.proofs.Common.{subst, ArePartsOf, TurnState}
use Rattle.wq_pool.proofs.turn.WorkedOf.into_parts.Goals as goal

pub returns-clause-parts : goal.returns-clause-parts
returns-clause-parts g c =
    let k = g.K.Station in
    subst (λ (t : TurnState _). ArePartsOf k.state k.book k.has_brought t.worker c.into_parts.result) c.self.view_is
    (record { work_is = c.into_parts.ensures.work; book_is = c.into_parts.ensures.book; brought = c.into_parts.ensures.brought })
