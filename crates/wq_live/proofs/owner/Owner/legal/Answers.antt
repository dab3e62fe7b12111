use Rattle.wq_live.proofs.Common.{sym, ap, subst, Layout, IsLegal, KeepsHeadline, keeps_headline, Known}
use Rattle.wq_calls.proofs.OwnerTells.{stands_legal}
use Rattle.wq_live.proofs.owner.Owner.legal.Goals as goal

pub returns-clause-legal : goal.returns-clause-legal
returns-clause-legal c = let s = c.self.inside.seat in let o = c.self.invariant.owns in
    subst (λ (v : Known). IsLegal v.layout v.seen) c.self.view_is
    (subst (λ (l : Layout). IsLegal l s.chair.first.part.seen) o.queue.layout_is (stands_legal s.chair.first.part o.queue.stands))

pub returns-clause-headline : goal.returns-clause-headline
returns-clause-headline c = let p = c.self.inside.seat.chair.first.part in
    subst (λ (v : Known). KeepsHeadline v.seen) c.self.view_is (keeps_headline p.layout p.seen (stands_legal p c.self.invariant.owns.queue.stands))

pub returns-clause-seat : goal.returns-clause-seat
returns-clause-seat c = sym (ap (λ (v : Known). v.number) c.self.view_is)
