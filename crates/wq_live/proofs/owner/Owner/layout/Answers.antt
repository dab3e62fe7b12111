use Rattle.wq_live.proofs.Common.{subst, Layout, IsLegal, Known}
use Rattle.wq_calls.proofs.OwnerTells.{stands_legal}
use Rattle.wq_live.proofs.owner.Owner.layout.Goals as goal

pub returns-clause-legal : goal.returns-clause-legal
returns-clause-legal c = let s = c.self.inside.seat in let o = c.self.invariant.owns in
    subst (λ (v : Known). IsLegal v.layout v.seen) c.self.view_is
    (subst (λ (l : Layout). IsLegal l s.chair.first.part.seen) o.queue.layout_is (stands_legal s.chair.first.part o.queue.stands))
