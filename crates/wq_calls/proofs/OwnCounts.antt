-- A seat counts its own events alone.
use Rattle.wq_calls.proofs.Common.{◌≡◌, ℕ, List, length, Event, capped, sender_counts, owner_seat, own}
use Rattle.wq_words.proofs.Seen.{count_own, map_own, ended_own}
use Rattle.wq_words.specs.History.{ended_by}
use Rattle.wq_words.specs.Counting.{is_queued_by, is_pending_by, is_closed_by, is_draining_by, is_contended_by, is_chain, is_chain_busy}
use Rattle.wq_words.proofs.Counting.{queued_own, pending_own, closed_own, draining_own, contended_own, chain_own, chain_busy_own}
use Rattle.wq_calls.specs.Counts.{owner_counts}

pub sender_counts-own : (s : ℕ) (h : List Event) → sender_counts s h ≡ sender_counts s (own s h)
sender_counts-own s h = λ i. record {
  queued = capped (count_own (is_queued_by s) s (queued_own s) h i);
  pending = capped (count_own (is_pending_by s) s (pending_own s) h i);
  closed = capped (count_own (is_closed_by s) s (closed_own s) h i);
  draining = capped (count_own (is_draining_by s) s (draining_own s) h i);
  contended = capped (count_own (is_contended_by s) s (contended_own s) h i);
}

pub owner_counts-own : (h : List Event) → owner_counts h ≡ owner_counts (own owner_seat h)
owner_counts-own h = λ i. record {
  chained = capped (count_own is_chain owner_seat chain_own h i);
  chain_busy = capped (count_own is_chain_busy owner_seat chain_busy_own h i);
  ended = capped (length (map_own ended_by ended_own h i));
}
