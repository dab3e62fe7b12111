-- What an engine counts: what senders and the delay table's sender did. The worker counts the rest.
use Rattle.std.specs.Prelude.{◌≡◌, ℕ, ◌+◌, ◌^◌, ◌≤◌, ◌==◌, Bool, List, count_by, if◌then◌else◌}
use Rattle.wq_words.specs.declared.event.Event.{Event}
use Rattle.wq_words.specs.History.{is_push}
use Rattle.wq_words.specs.Counting.{is_busy, is_refusal}
use Rattle.wq_words.specs.Counting.{is_queued_by, is_pending_by, is_closed_by, is_draining_by, is_chain_busy}
use Rattle.wq_words.specs.declared.answer.Answer.{Answer}
use Rattle.wq_words.specs.declared.answer.Answer.TheVariants as answer
use Rattle.wq_words.specs.declared.answer.Armed.{Armed}
use Rattle.wq_words.specs.declared.answer.Armed.TheVariants as armed
use Rattle.wq_words.specs.declared.answer.Modified.{Modified}
use Rattle.wq_words.specs.declared.answer.Modified.TheVariants as modified
use Rattle.wq_script.specs.declared.tally.Tally.{Tally}

-- with what the worker w counted these are all
pub record Tallied (t : Tally) (w : ℕ) (h : List Event) : Type 0 where
  pub queued : t.queued + count_by (is_queued_by w) h ≡ count_by is_push h
  pub busy : t.busy + (count_by (is_pending_by w) h + count_by is_chain_busy h) ≡ count_by is_busy h
  pub refused : t.refused + (count_by (is_closed_by w) h + count_by (is_draining_by w) h) ≡ count_by is_refusal h

-- one more, by its answer
abbrev pub counted : Answer → Tally → Tally
counted (answer.Queued is_first wakes) t = record t { queued = t.queued + 1 }
counted answer.Pending t = record t { busy = t.busy + 1 }
counted answer.Closed t = record t { refused = t.refused + 1 }
counted answer.Draining t = record t { refused = t.refused + 1 }
counted answer.Contended t = t

abbrev pub counted_armed : Armed → Tally → Tally
counted_armed (armed.Queued is_first wakes) t = record t { queued = t.queued + 1 }
counted_armed armed.Pending t = record t { busy = t.busy + 1 }
counted_armed armed.Closed t = record t { refused = t.refused + 1 }
counted_armed armed.Draining t = record t { refused = t.refused + 1 }
counted_armed _ t = t

-- a modification with no delay, where it was not refused, is a push
abbrev pub counted_push : ℕ → Tally → Tally
counted_push delay t = if delay == 0 then record t { queued = t.queued + 1 } else t

-- where the queue drains, a modification of an item on the table does nothing, and of another is a queueing
abbrev pub counted_modified : ℕ → Bool → Modified → Tally → Tally
counted_modified delay on modified.WasIdle t = counted_push delay t
counted_modified delay on modified.Moved t = counted_push delay t
counted_modified delay on modified.Pending t = record t { busy = t.busy + 1 }
counted_modified delay on modified.Closed t = record t { refused = t.refused + 1 }
counted_modified delay on modified.Draining t = if on then t else record t { refused = t.refused + 1 }
counted_modified delay on _ t = t

-- so many were posted, all of them refused where the queue is closed
abbrev pub counted_posts : Bool → ℕ → Tally → Tally
counted_posts is_closed count t = if is_closed then record t { refused = t.refused + count } else record t { queued = t.queued + count }

-- there is room for more
pub record HasTallyRoom (t : Tally) : Type 0 where
  pub queued : t.queued ≤ 2 ^ 62
  pub busy : t.busy ≤ 2 ^ 62
  pub refused : t.refused ≤ 2 ^ 62
