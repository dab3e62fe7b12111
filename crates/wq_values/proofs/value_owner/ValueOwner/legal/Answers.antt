use Rattle.wq_values.proofs.Common.{sym, ap, subst, Layout, IsLegal, KeepsHeadline, keeps_headline, KnownWith, IsLegalWith, with_values}
use Rattle.wq_calls.specs.KnownWith.{MatchesAccepted}
use Rattle.wq_calls.proofs.OwnerTells.{stands_legal}
use Rattle.wq_calls.proofs.HandedOver.{whole_legal}
use Rattle.wq_values.proofs.value_owner.ValueOwner.legal.Goals as goal

pub returns-clause-legal : goal.returns-clause-legal
returns-clause-legal g c = let s = c.self.inside.seat in let o = c.self.invariant.owns in
    subst (λ (v : KnownWith g.row.V.Denot). IsLegal v.known.layout v.known.seen) c.self.view_is
    (subst (λ (l : Layout). IsLegal l s.chair.first.part.seen) o.queue.layout_is (stands_legal s.chair.first.part o.queue.stands))

pub returns-clause-headline : goal.returns-clause-headline
returns-clause-headline g c = let p = c.self.inside.seat.chair.first.part in
    subst (λ (v : KnownWith g.row.V.Denot). KeepsHeadline v.known.seen) c.self.view_is
    (keeps_headline p.layout p.seen (stands_legal p c.self.invariant.owns.queue.stands))

pub returns-clause-values : goal.returns-clause-values
returns-clause-values g c = let s = c.self.inside.seat in let o = c.self.invariant.owns.queue in
    subst (λ (v : KnownWith g.row.V.Denot). IsLegalWith v.known.layout (with_values v.known.seen v.brought)) c.self.view_is
    (whole_legal s.chair.first.part s.layout s.chair.first.brought o.layout_is
    (subst (λ (l : Layout). IsLegal l s.chair.first.part.seen) o.layout_is (stands_legal s.chair.first.part o.stands)) c.self.invariant.known)

pub returns-clause-seat : goal.returns-clause-seat
returns-clause-seat g c = sym (ap (λ (v : KnownWith g.row.V.Denot). v.known.number) c.self.view_is)

pub returns-clause-matches : goal.returns-clause-matches
returns-clause-matches g c = subst (λ (v : KnownWith g.row.V.Denot). MatchesAccepted v) c.self.view_is c.self.invariant.known.as_many
