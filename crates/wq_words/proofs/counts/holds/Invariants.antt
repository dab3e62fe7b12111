use Rattle.wq_words.proofs.Common.{starts_hold, stops_hold}
use Rattle.wq_words.proofs.Counted.{IsCounted}
use Rattle.wq_words.proofs.counts.holds.Given as goal

abbrev pub invariant-loop-event : goal.invariant-loop-event
invariant-loop-event l =
    IsCounted (starts_hold l.sender l.number) l.history l.event-index l.started × IsCounted (stops_hold l.sender l.number) l.history l.event-index l.stopped
