use Rattle.wq_values.proofs.Common.{subst, Layout, IsLegal, KnownValuePair}
use Rattle.wq_calls.proofs.OwnerTells.{stands_legal}
use Rattle.wq_values.proofs.value_pair.ValuePair.layout.Goals as goal

pub returns-clause-legal : goal.returns-clause-legal
returns-clause-legal g c = let s = c.self.inside.seat in let o = c.self.invariant.seated.owns in
    subst (λ (v : KnownValuePair g.row.V.Denot). IsLegal v.known.layout v.known.seen) c.self.view_is
    (subst (λ (l : Layout). IsLegal l s.chair.first.part.seen) o.queue.layout_is (stands_legal s.chair.first.part o.queue.stands))
