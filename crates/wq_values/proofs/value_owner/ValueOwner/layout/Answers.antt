use Rattle.wq_values.proofs.Common.{subst, Layout, IsLegal, KnownWith}
use Rattle.wq_calls.proofs.OwnerTells.{stands_legal}
use Rattle.wq_values.proofs.value_owner.ValueOwner.layout.Goals as goal

pub returns-clause-legal : goal.returns-clause-legal
returns-clause-legal g c = let s = c.self.inside.seat in let o = c.self.invariant.owns in
    subst (λ (v : KnownWith g.row.V.Denot). IsLegal v.known.layout v.known.seen) c.self.view_is
    (subst (λ (l : Layout). IsLegal l s.chair.first.part.seen) o.queue.layout_is (stands_legal s.chair.first.part o.queue.stands))
