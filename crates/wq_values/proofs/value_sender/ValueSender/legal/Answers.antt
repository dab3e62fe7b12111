use Rattle.wq_values.proofs.Common.{◌<◌, subst, IsLegal, KeepsHeadline, keeps_headline, KnownWith, sending_in, IsLegalWith, with_values}
use Rattle.wq_calls.specs.KnownWith.{MatchesAccepted}
use Rattle.wq_calls.proofs.HandedOver.{whole_legal}
use Rattle.wq_values.proofs.value_sender.ValueSender.legal.Goals as goal

pub returns-clause-legal : goal.returns-clause-legal
returns-clause-legal g c = subst (λ (v : KnownWith g.row.V.Denot). IsLegal v.known.layout v.known.seen) c.self.view_is c.self.invariant.sends.legal

pub returns-clause-headline : goal.returns-clause-headline
returns-clause-headline g c = let s = sending_in 0 c.self.inside.chair c.self.inside.sent in
    subst (λ (v : KnownWith g.row.V.Denot). KeepsHeadline v.known.seen) c.self.view_is (keeps_headline s.layout s.chair.part.seen c.self.invariant.sends.legal)

pub returns-clause-values : goal.returns-clause-values
returns-clause-values g c = let it = c.self.inside.chair in let o = c.self.invariant.sends in
    subst (λ (v : KnownWith g.row.V.Denot). IsLegalWith v.known.layout (with_values v.known.seen v.brought)) c.self.view_is
    (whole_legal it.first.part c.self.inside.sent.layout it.first.brought o.layout_is o.legal c.self.invariant.known)

pub returns-clause-matches : goal.returns-clause-matches
returns-clause-matches g c = subst (λ (v : KnownWith g.row.V.Denot). MatchesAccepted v) c.self.view_is c.self.invariant.known.as_many

pub returns-clause-low : goal.returns-clause-low
returns-clause-low g c = subst (λ (v : KnownWith g.row.V.Denot). v.known.number < v.known.layout.senders) c.self.view_is c.self.invariant.sends.low
