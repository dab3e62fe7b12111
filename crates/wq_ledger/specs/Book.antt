-- What the senders of a queue that has run to the end have counted.
use Rattle.std.specs.Prelude.{◌≡◌, ℕ, List}
use mathlib.Core.List.{IsPrefix}
use Rattle.wq_live.specs.Known.{QueueId}
use Rattle.wq_words.specs.declared.layout.Layout.{Layout}
use Rattle.wq_words.specs.declared.event.Event.{Event}
use Rattle.wq_words.specs.History.{IsClosed}
use Rattle.wq_words.specs.Legal.{IsLegal, IsComplete}
use Rattle.wq_live.specs.Known.{Known}
use Rattle.wq_live.specs.Counts.{sender_counts}
use Rattle.wq_calls.specs.declared.counts.SenderCounts.{SenderCounts}

-- a sender's number, and what it had counted as it met the book
pub record LedgerState : Type 0 where
  pub number : ℕ
  pub counts : SenderCounts

-- which queue it is of, how large that is, the history that its owner has seen, and the ledger of the worker's own sender
pub record BookState : Type 0 where
  pub queue : QueueId
  pub layout : Layout
  pub seen : List Event
  pub own : LedgerState

-- the book of this owner, with this ledger of the worker's own sender
abbrev pub book_of : Known → LedgerState → BookState
book_of owner own = record { queue = owner.queue; layout = owner.layout; seen = owner.seen; own = own }

-- The book with this history made the ledger: it holds what its sender had counted as they met, once the queue was closed.
pub record IsLedgerOf (h : List Event) (ledger : LedgerState) : Type 0 where
  pub met : List Event
  pub before : IsPrefix met h
  pub closed : IsClosed met
  pub counts_are : ledger.counts ≡ sender_counts ledger.number met

-- the parts of a book: an owner that has run to its end, and a ledger of its history
pub record AreBookParts (owner : Known) (own : LedgerState) : Type 0 where
  pub legal : IsLegal owner.layout owner.seen
  pub complete : IsComplete owner.seen
  pub made : IsLedgerOf owner.seen own
