use Rattle.wq_live.proofs.Common.{subst, ◌≡◌, Known, sender_counts}
use Rattle.wq_live.proofs.sender.Sender.counts.Goals as goal

pub returns : goal.returns
returns c = record {
  counted = subst (λ (v : Known). c.self.inside.sent.counts ≡ sender_counts v.number v.seen) c.self.view_is c.self.invariant.sends.counts_are;
}
