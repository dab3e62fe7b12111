use Rattle.wq_ledger.proofs.Common.{◌≡◌, ◌+◌, sym, ap, ◌∙◌, subst, SenderCounts, Totals, SumsMet, with_sender}
use Rattle.wq_ledger.proofs.Summing.{sums_none, sums_next, sums_skip}
use Rattle.wq_ledger.proofs.balance.sum_met.Goals.{then-number-seat+in_ok-ledger, else-number-seat}
use Rattle.wq_ledger.proofs.balance.sum_met.Goals as goal

pub loop-number-init : goal.loop-number-init
loop-number-init c = sums_none c.args.ledgers.now c.args.seat c.none-met.result c.none-met.ensures

-- the sums with the counts that a ledger answers
counted : (met more : Totals) (said counts : SenderCounts) → more ≡ with_sender said met → said ≡ counts → more ≡ with_sender counts met
counted met more said counts sums is = sums ∙ ap (λ (z : SenderCounts). with_sender z met) is

pub loop-number-preserved : goal.loop-number-preserved
loop-number-preserved c =
    let ls = c.args.ledgers.now in let seat = c.args.seat in let n = c.loop-number.number in
    elim c.if-number-seat.branch [
      | then-number-seat+in_ok-ledger w ↦ subst (λ (z : Totals). SumsMet ls seat (n + 1) z) (sym w.met-is)
          (sums_next ls seat n c.loop-number.met w.in_ok-ledger.ledger w.with-met.result c.loop-number.invariant w.if-number-seat.true
          w.in_ok-ledger.ensures.0 w.in_ok-ledger.ensures.1 (counted _ _ _ _ w.with-met.ensures.sums w.counts.ensures.counted) w.with-met.ensures.room)
      | else-number-seat w ↦ sums_skip ls seat n c.loop-number.met c.if-number-seat.met c.loop-number.invariant w.if-number-seat.false w.met-is
    ]
