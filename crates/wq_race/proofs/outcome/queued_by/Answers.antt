use Rattle.wq_race.proofs.Common.{◌≡◌, ℕ, ◌+◌, ap, ◌∙◌, arith, fold_more, sender_counts, Known}
use Rattle.wq_calls.specs.declared.counts.SenderCounts.{SenderCounts}
use Rattle.wq_race.proofs.outcome.queued_by.Goals as goal

pub loop-sender-preserved : goal.loop-sender-preserved
loop-sender-preserved c =
    let f = λ (k : Known). (sender_counts k.number k.seen).queued in
    let i = c.loop-sender.sender-index in let s : Known = c.sender-item.result in
    let one : c.from-queued.result ≡ f s = c.from-queued.ensures ∙ ap (λ (k : SenderCounts). k.queued) c.counts.ensures.counted in
    let more = fold_more (λ (a : ℕ) (k : Known). a + f k) 0 c.args.senders.now i s c.loop-sender-test.true in
    let at = ap f c.sender-item.is in
    (omega (arith, one, more, at, c.loop-sender.invariant.0), omega (arith, one, c.loop-sender.invariant.1))
