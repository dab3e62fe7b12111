use Rattle.wq_words.proofs.Common.{sets_pending, clears_pending}
use Rattle.wq_words.proofs.Counted.{counted_next, counted_less}
use Rattle.wq_words.proofs.counts.is_pending.Goals as goal

pub loop-event-preserved : goal.loop-event-preserved
loop-event-preserved c =
    let h = c.args.history.now in
    let i = c.loop-event.event-index in
    let here = c.loop-event-test.true in (
      counted_next (sets_pending c.args.number) h i _ here c.loop-event.invariant.0 c.sets_pending.ensures c.from-set.ensures,
      counted_next (clears_pending c.args.number) h i _ here c.loop-event.invariant.1 c.clears_pending.ensures c.from-cleared.ensures,
    )

pub returns : goal.returns
returns c =
    counted_less (clears_pending c.args.number) (sets_pending c.args.number)
    c.args.history.now c.loop-event.invariant.1 c.loop-event.invariant.0 c.loop-event-test.false
