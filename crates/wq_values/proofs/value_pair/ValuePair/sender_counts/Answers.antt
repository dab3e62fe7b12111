use Rattle.wq_values.proofs.Common.{◌≡◌, List, ap, ◌∙◌, subst, Event, KnownValuePair, sender_counts}
use Rattle.wq_values.proofs.value_pair.ValuePair.sender_counts.Goals as goal

pub returns : goal.returns
returns g c = let s = c.self.inside in let pair = c.self.invariant.seated in record {
  counted = subst (λ (v : KnownValuePair g.row.V.Denot). s.sent.counts ≡ sender_counts v.known.number v.known.seen) c.self.view_is
      (pair.sends.counts_are ∙ ap (λ (h : List Event). sender_counts s.sent.number h) pair.one_seen);
}
