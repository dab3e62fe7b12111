-- What the senders of a queue have counted, summed.
use Rattle.std.specs.Prelude.{◌≡◌, ◌≢◌, ℕ, zero, suc, ◌+◌, ◌<◌, List}
use mathlib.Core.List.{IsPrefix}
use Rattle.wq_words.specs.declared.layout.Layout.{Layout}
use Rattle.wq_words.specs.declared.event.Event.{Event}
use Rattle.wq_words.specs.Legal.{IsLegal}
use Rattle.wq_words.specs.Seen.{own}
use Rattle.wq_live.specs.Counts.{sender_counts}
use Rattle.wq_ledger.specs.Balance.{largest}

-- the sum over the senders below n, of which each has seen a history of its own, of what each counts as queued
abbrev pub queued_below : ℕ → (ℕ → List Event) → ℕ
queued_below zero seen = 0
queued_below (suc n) seen = queued_below n seen + (sender_counts n (seen n)).queued

-- The sender s, which has seen v, is of the queue whose owner has seen h: in a history of this queue that goes on from h stand
-- just those events of s that it has made. Not in h itself: what it was answered since its owner's last step is not there.
pub record IsOfQueue (layout : Layout) (s : ℕ) (v h : List Event) : Type 0 where
  pub now : List Event
  pub legal : IsLegal layout now
  pub goes_on : IsPrefix h now
  pub made : own s v ≡ own s now

-- each sender is of the queue whose owner has seen h, and its count has not stopped
abbrev pub HaveCounted : Layout → (ℕ → List Event) → List Event → Type 0
HaveCounted layout seen h = (s : ℕ) → s < layout.senders → IsOfQueue layout s (seen s) h × ((sender_counts s (seen s)).queued ≢ largest)
