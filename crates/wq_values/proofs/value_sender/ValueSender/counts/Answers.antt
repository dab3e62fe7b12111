use Rattle.wq_values.proofs.Common.{subst, ◌≡◌, sender_counts, KnownWith}
use Rattle.wq_values.proofs.value_sender.ValueSender.counts.Goals as goal

pub returns : goal.returns
returns g c = record {
  counted = subst (λ (v : KnownWith g.row.V.Denot). c.self.inside.sent.counts ≡ sender_counts v.known.number v.known.seen) c.self.view_is
      c.self.invariant.sends.counts_are;
}
