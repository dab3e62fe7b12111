use Rattle.wq_words.specs.Milestone.{reached_by}
use Rattle.wq_words.proofs.Counted.{IsMapped}
use Rattle.wq_words.proofs.counts.reached_count.Given as goal

abbrev pub invariant-loop-event : goal.invariant-loop-event
invariant-loop-event l = IsMapped (reached_by l.milestone) l.history l.event-index l.count
