use Rattle.wq_values.proofs.Common.{◌<◌, subst, Layout, IsLegal, KeepsHeadline, keeps_headline, KnownValuePair, owner_of, IsLegalWith, with_values}
use Rattle.wq_calls.specs.KnownWith.{MatchesAccepted}
use Rattle.wq_calls.proofs.OwnerTells.{stands_legal}
use Rattle.wq_calls.proofs.HandedOver.{whole_legal}
use Rattle.wq_values.proofs.value_pair.ValuePair.legal.Goals as goal

pub returns-clause-legal : goal.returns-clause-legal
returns-clause-legal g c = let s = c.self.inside.seat in let o = c.self.invariant.seated.owns in
    subst (λ (v : KnownValuePair g.row.V.Denot). IsLegal v.known.layout v.known.seen) c.self.view_is
    (subst (λ (l : Layout). IsLegal l s.chair.first.part.seen) o.queue.layout_is (stands_legal s.chair.first.part o.queue.stands))

pub returns-clause-headline : goal.returns-clause-headline
returns-clause-headline g c = let p = c.self.inside.seat.chair.first.part in
    subst (λ (v : KnownValuePair g.row.V.Denot). KeepsHeadline v.known.seen) c.self.view_is
    (keeps_headline p.layout p.seen (stands_legal p c.self.invariant.seated.owns.queue.stands))

pub returns-clause-values : goal.returns-clause-values
returns-clause-values g c = let s = c.self.inside.seat in let o = c.self.invariant.seated.owns.queue in
    subst (λ (v : KnownValuePair g.row.V.Denot). IsLegalWith v.known.layout (with_values v.known.seen v.brought)) c.self.view_is
    (whole_legal s.chair.first.part s.layout s.chair.first.brought o.layout_is
    (subst (λ (l : Layout). IsLegal l s.chair.first.part.seen) o.layout_is (stands_legal s.chair.first.part o.stands)) c.self.invariant.known)

pub returns-clause-matches : goal.returns-clause-matches
returns-clause-matches g c = subst (λ (v : KnownValuePair g.row.V.Denot). MatchesAccepted (owner_of v)) c.self.view_is c.self.invariant.known.as_many

pub returns-clause-low : goal.returns-clause-low
returns-clause-low g c = let seated = c.self.invariant.seated in
    subst (λ (v : KnownValuePair g.row.V.Denot). v.known.number < v.known.layout.senders) c.self.view_is
    (subst (λ (l : Layout). c.self.inside.sent.number < l.senders) seated.one_layout seated.sends.low)
