use Rattle.wq_words.specs.Milestone.{reached_by}
use Rattle.wq_words.proofs.Counted.{mapped_next}
use Rattle.wq_words.proofs.counts.reached_count.Goals as goal

pub loop-event-preserved : goal.loop-event-preserved
loop-event-preserved c =
    mapped_next (reached_by c.args.milestone) c.args.history.now c.loop-event.event-index _ c.loop-event-test.true c.loop-event.invariant
    c.number.ensures c.is_some.ensures c.from-count.ensures
