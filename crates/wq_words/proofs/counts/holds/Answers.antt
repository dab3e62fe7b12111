use Rattle.wq_words.proofs.Common.{starts_hold, stops_hold}
use Rattle.wq_words.proofs.Counted.{counted_next, counted_less}
use Rattle.wq_words.proofs.counts.holds.Goals as goal

pub loop-event-preserved : goal.loop-event-preserved
loop-event-preserved c =
    let h = c.args.history.now in
    let i = c.loop-event.event-index in
    let here = c.loop-event-test.true in (
      counted_next (starts_hold c.args.sender c.args.number) h i _ here c.loop-event.invariant.0 c.starts_hold.ensures c.from-started.ensures,
      counted_next (stops_hold c.args.sender c.args.number) h i _ here c.loop-event.invariant.1 c.stops_hold.ensures c.from-stopped.ensures,
    )

pub returns : goal.returns
returns c =
    counted_less (stops_hold c.args.sender c.args.number) (starts_hold c.args.sender c.args.number)
    c.args.history.now c.loop-event.invariant.1 c.loop-event.invariant.0 c.loop-event-test.false
