use Rattle.wq_words.proofs.Common.{sets_pending, clears_pending}
use Rattle.wq_words.proofs.Counted.{IsCounted}
use Rattle.wq_words.proofs.counts.is_pending.Given as goal

abbrev pub invariant-loop-event : goal.invariant-loop-event
invariant-loop-event l =
    IsCounted (sets_pending l.number) l.history l.event-index l.set × IsCounted (clears_pending l.number) l.history l.event-index l.cleared
