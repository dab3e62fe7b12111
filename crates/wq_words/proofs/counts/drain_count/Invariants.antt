use Rattle.std.proofs.Common.{◌≡◌, ◌≤◌, take}
use Rattle.std.specs.List.{count_by, after_last}
use Rattle.wq_words.specs.History.{is_drain, is_resume}
use Rattle.wq_words.proofs.counts.drain_count.Given as goal

abbrev pub invariant-loop-event : goal.invariant-loop-event
invariant-loop-event l = (l.count ≡ count_by is_drain (after_last is_resume (take l.event-index l.history))) × (l.count ≤ l.event-index)
