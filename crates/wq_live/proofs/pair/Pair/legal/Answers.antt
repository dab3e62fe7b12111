use Rattle.wq_live.proofs.Common.{◌<◌, subst, Layout, IsLegal, KeepsHeadline, keeps_headline, KnownPair}
use Rattle.wq_calls.proofs.OwnerTells.{stands_legal}
use Rattle.wq_live.proofs.pair.Pair.legal.Goals as goal

pub returns-clause-legal : goal.returns-clause-legal
returns-clause-legal c = let s = c.self.inside.seat in let o = c.self.invariant.seated.owns in
    subst (λ (v : KnownPair). IsLegal v.layout v.seen) c.self.view_is
    (subst (λ (l : Layout). IsLegal l s.chair.first.part.seen) o.queue.layout_is (stands_legal s.chair.first.part o.queue.stands))

pub returns-clause-headline : goal.returns-clause-headline
returns-clause-headline c = let p = c.self.inside.seat.chair.first.part in
    subst (λ (v : KnownPair). KeepsHeadline v.seen) c.self.view_is (keeps_headline p.layout p.seen (stands_legal p c.self.invariant.seated.owns.queue.stands))

pub returns-clause-low : goal.returns-clause-low
returns-clause-low c = let seated = c.self.invariant.seated in
    subst (λ (v : KnownPair). v.number < v.layout.senders) c.self.view_is
    (subst (λ (l : Layout). c.self.inside.sent.number < l.senders) seated.one_layout seated.sends.low)
