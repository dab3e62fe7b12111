-- What seats count of a history.
use Rattle.std.specs.Prelude.{ℕ, List, length, count_by}
use Rattle.wq_words.specs.declared.event.Event.{Event}
use Rattle.wq_words.specs.Counting.{capped, is_queued_by, is_pending_by, is_closed_by, is_draining_by, is_contended_by, is_chain, is_chain_busy}
use Rattle.wq_words.specs.History.{ended}
use Rattle.wq_calls.specs.declared.counts.SenderCounts.{SenderCounts}
use Rattle.wq_calls.specs.declared.counts.OwnerCounts.{OwnerCounts}

-- the counts of sender s, and those of the owner
abbrev pub sender_counts : ℕ → List Event → SenderCounts
sender_counts s h = record {
  queued = capped (count_by (is_queued_by s) h);
  pending = capped (count_by (is_pending_by s) h);
  closed = capped (count_by (is_closed_by s) h);
  draining = capped (count_by (is_draining_by s) h);
  contended = capped (count_by (is_contended_by s) h);
}

abbrev pub owner_counts : List Event → OwnerCounts
owner_counts h = record {
  chained = capped (count_by is_chain h);
  chain_busy = capped (count_by is_chain_busy h);
  ended = capped (length (ended h));
}
