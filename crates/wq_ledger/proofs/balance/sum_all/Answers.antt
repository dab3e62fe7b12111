use Rattle.wq_ledger.proofs.Common.{ℕ, ap, ◌∙◌, subst, rules, SenderCounts, owner_counts, AreWhole, AreOwnerWhole, SumsMet, with_sender, with_owner}
use Rattle.wq_ledger.proofs.Balancing.{balances}
use Rattle.wq_ledger.proofs.balance.sum_all.Goals as goal

pub returns : goal.returns
returns c = record {
  outcome = λ seat counted senders parts made.
      let own = c.args.own in let ls = c.args.ledgers.now in let met = c.in_ok-met.met in
      let sums : SumsMet ls own.number seat.layout.senders met =
      subst (λ (z : ℕ × ℕ). SumsMet ls z.0 z.1 met) (λ i. (c.number-number.ensures.seat i, senders i)) c.in_ok-met.ensures in
      let whole : AreWhole own.counts = search rules in
      let owner_whole : AreOwnerWhole (owner_counts seat.seen) = subst AreOwnerWhole counted (search rules) in
      balances seat own ls met c.with_owner.result parts made sums whole owner_whole
      (c.with_owner.ensures ∙ ((λ i. with_owner (counted i) (c.with.ensures.sums i))
      ∙ ap (λ (z : SenderCounts). with_owner (owner_counts seat.seen) (with_sender z met)) c.counts-counts.ensures.counted));
}
