use Rattle.wq_live.proofs.Common.{◌≡◌, List, ap, ◌∙◌, subst, Event, KnownPair, sender_counts}
use Rattle.wq_live.proofs.pair.Pair.sender_counts.Goals as goal

pub returns : goal.returns
returns c = let s = c.self.inside in record {
  counted = subst (λ (v : KnownPair). s.sent.counts ≡ sender_counts v.number v.seen) c.self.view_is
      (c.self.invariant.seated.sends.counts_are ∙ ap (λ (h : List Event). sender_counts s.sent.number h) c.self.invariant.seated.one_seen);
}
