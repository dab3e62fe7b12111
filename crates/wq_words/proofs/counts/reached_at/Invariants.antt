use Rattle.wq_words.proofs.Common.{◌≤◌}
use Rattle.wq_words.specs.Milestone.{reached_by}
use Rattle.wq_words.proofs.Counted.{IsMapped}
use Rattle.wq_words.proofs.counts.reached_at.Given as goal

abbrev pub invariant-loop-event : goal.invariant-loop-event
invariant-loop-event l = IsMapped (reached_by l.milestone) l.history l.event-index l.before × (l.before ≤ l.place)
