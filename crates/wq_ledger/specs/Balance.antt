-- When the ledgers of a queue's senders balance.
use Rattle.std.specs.Prelude.{◌≡◌, ◌≢◌, ℕ, ◌+◌, ◌-◌, ◌*◌, ◌^◌, ◌<◌, ◌≤◌, ◌==◌, ◌&&◌, not, if◌then◌else◌, List, [], ◌∷◌, length, filter, count_by, sum_by}
use Rattle.std.specs.Prelude.{nat_lt}
use Rattle.wq_words.specs.History.{is_push, ended}
use Rattle.wq_calls.specs.declared.counts.SenderCounts.{SenderCounts}
use Rattle.wq_calls.specs.declared.counts.OwnerCounts.{OwnerCounts}
use Rattle.wq_words.specs.Counting.{is_chain, is_chain_busy}
use Rattle.wq_live.specs.Counts.{owner_counts}
use Rattle.wq_ledger.specs.declared.totals.Totals.{Totals}
use Rattle.wq_ledger.specs.declared.balance.Unbalanced.{Unbalanced}
use Rattle.wq_ledger.specs.declared.balance.Unbalanced.TheVariants.{Missing, Twice, Saturated}
use Rattle.wq_ledger.specs.Book.{LedgerState, BookState, IsLedgerOf}

abbrev pub largest : ℕ
largest = 2 ^ 64 - 1

-- no count is saturated
abbrev pub AreWhole : SenderCounts → Type 0
AreWhole counts = (counts.queued ≢ largest) × (counts.pending ≢ largest) × (counts.closed ≢ largest) × (counts.draining ≢ largest)
    × (counts.contended ≢ largest)

abbrev pub AreOwnerWhole : OwnerCounts → Type 0
AreOwnerWhole counts = (counts.chained ≢ largest) × (counts.chain_busy ≢ largest) × (counts.ended ≢ largest)

-- the ledgers of the sender s
abbrev pub ledgers_of : ℕ → List LedgerState → List LedgerState
ledgers_of s ledgers = filter (λ ledger. ledger.number == s) ledgers

-- the sender s has one ledger, with these counts, of which none is saturated
abbrev pub HasOne : List LedgerState → ℕ → Type 0
HasOne ledgers s = (ledger : LedgerState) × (ledgers_of s ledgers ≡ ledger ∷ []) × AreWhole ledger.counts

-- why the ledgers of the sender s do not do
abbrev pub IsFault : List LedgerState → ℕ → Unbalanced → Type 0
IsFault ledgers s (Missing t) = (t ≡ s) × (ledgers_of s ledgers ≡ [])
IsFault ledgers s (Twice t) = (t ≡ s) × (2 ≤ length (ledgers_of s ledgers))
IsFault ledgers s (Saturated t) = (t ≡ s) × (ledger : LedgerState) × (ledgers_of s ledgers ≡ ledger ∷ []) × (¬ AreWhole ledger.counts)

-- each sender below n but this one has one ledger
abbrev pub HaveOne : List LedgerState → ℕ → ℕ → Type 0
HaveOne ledgers seat n = (s : ℕ) → s < n → s ≢ seat → HasOne ledgers s

-- the sum of a count over the ledgers of the senders below n but this one
abbrev pub met_total : (SenderCounts → ℕ) → ℕ → ℕ → List LedgerState → ℕ
met_total count seat n ledgers = sum_by (λ ledger. if (nat_lt ledger.number n && not (ledger.number == seat)) then count ledger.counts else 0) ledgers

-- the sums over the ledgers of the senders below n but this one, which each has one
pub record SumsMet (ledgers : List LedgerState) (seat n : ℕ) (met : Totals) : Type 0 where
  pub have_one : HaveOne ledgers seat n
  pub queued_is : met.queued ≡ met_total (λ c. c.queued) seat n ledgers
  pub pending_is : met.pending ≡ met_total (λ c. c.pending) seat n ledgers
  pub closed_is : met.closed ≡ met_total (λ c. c.closed) seat n ledgers
  pub draining_is : met.draining ≡ met_total (λ c. c.draining) seat n ledgers
  pub contended_is : met.contended ≡ met_total (λ c. c.contended) seat n ledgers
  pub queued_room : met.queued ≤ n * 2 ^ 64
  pub pending_room : met.pending ≤ n * 2 ^ 64
  pub closed_room : met.closed ≤ n * 2 ^ 64
  pub draining_room : met.draining ≤ n * 2 ^ 64
  pub contended_room : met.contended ≤ n * 2 ^ 64

-- the first fault of a sender below n but this one
abbrev pub FaultsBelow : List LedgerState → ℕ → ℕ → Unbalanced → Type 0
FaultsBelow ledgers seat n fault = (s : ℕ) × (s < n) × (s ≢ seat) × HaveOne ledgers seat s × IsFault ledgers s fault

-- Each sender but the worker's has one ledger, and no count is saturated. Each count is the sum of what each sender had counted as
-- it met the book, the worker's as the book was made. Queued and chained are all that was accepted, as many as were executed.
pub record Balances (book : BookState) (ledgers : List LedgerState) (totals : Totals) : Type 0 where
  pub have_one : HaveOne ledgers book.own.number book.layout.senders
  pub own_made : IsLedgerOf book.seen book.own
  pub own_whole : AreWhole book.own.counts
  pub owner_whole : AreOwnerWhole (owner_counts book.seen)
  pub queued_is : totals.queued ≡ count_by is_push book.seen
  pub chained_is : totals.chained ≡ count_by is_chain book.seen
  pub executed_is : totals.executed ≡ length (ended book.seen)
  pub balance : totals.queued + totals.chained ≡ totals.executed
  pub queued_sum : totals.queued ≡ met_total (λ c. c.queued) book.own.number book.layout.senders ledgers + book.own.counts.queued
  pub pending_is : totals.pending ≡ met_total (λ c. c.pending) book.own.number book.layout.senders ledgers
      + (book.own.counts.pending + count_by is_chain_busy book.seen)
  pub closed_is : totals.closed ≡ met_total (λ c. c.closed) book.own.number book.layout.senders ledgers + book.own.counts.closed
  pub draining_is : totals.draining ≡ met_total (λ c. c.draining) book.own.number book.layout.senders ledgers + book.own.counts.draining
  pub contended_is : totals.contended ≡ met_total (λ c. c.contended) book.own.number book.layout.senders ledgers + book.own.counts.contended

-- The first fault by sender number, and, where the senders' ledgers do, that a count of the worker's sender or of the owner
-- is saturated.
pub data IsUnbalanced (book : BookState) (ledgers : List LedgerState) (fault : Unbalanced) : Type 0 where
  of_sender : FaultsBelow ledgers book.own.number book.layout.senders fault → IsUnbalanced book ledgers fault
  of_worker : HaveOne ledgers book.own.number book.layout.senders → ¬ (AreWhole book.own.counts × AreOwnerWhole (owner_counts book.seen))
      → fault ≡ Saturated book.own.number → IsUnbalanced book ledgers fault
