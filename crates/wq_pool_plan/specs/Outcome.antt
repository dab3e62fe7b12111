-- What a race over a pool leaves: a history and a book of each queue, and what its outcome counts.
use Rattle.std.specs.Prelude.{◌≡◌, ◌⊎◌, ℕ, ◌+◌, ◌<◌, ◌==◌, ◌&&◌, true, false, if◌then◌else◌, List, [], ◌∷◌, ◌++◌, length, map, sum_by, All, MatchBool}
use Rattle.std.specs.Prelude.{MatchResult}
use Rattle.std.specs.List.{AllByRecursion}
use Rattle.std.specs.declared.result.Result.{Result}
use Rattle.std.specs.declared.result.Result.TheVariants.{Ok, Err}
use mathlib.Core.List.{IsPrefix}
use Rattle.wq_words.specs.declared.layout.Layout.{Layout}
use Rattle.wq_words.specs.declared.event.Event.{Event}
use Rattle.wq_words.specs.History.{accepted, ended}
use Rattle.wq_words.specs.Legal.{IsLegal, IsComplete}
use Rattle.wq_words.specs.Seen.{own, owner_seat}
use Rattle.wq_words.specs.Counting.{capped}
use Rattle.wq_live.specs.Known.{Known}
use Rattle.wq_ledger.specs.declared.book.Ledger.{Ledger}
use Rattle.wq_ledger.specs.declared.totals.Totals.{Totals}
use Rattle.wq_ledger.specs.declared.balance.Unbalanced.{Unbalanced}
use Rattle.wq_ledger.specs.declared.balance.Unbalanced.TheVariants.{Saturated}
use Rattle.wq_ledger.specs.Book.{BookState, IsLedgerOf}
use Rattle.wq_ledger.specs.Balance.{HaveOne, Balances, IsUnbalanced}
use Rattle.wq_worker.specs.State.{items_among}
use Rattle.wq_plan.specs.declared.plan.Plan.{Plan}
use Rattle.wq_plan.specs.Plan.{IsLayoutOf}
use Rattle.wq_race.specs.declared.outcome.Outcome.{Outcome}
use Rattle.wq_race.specs.Outcome.{HasHeard, IsTold, ledger_of}
use Rattle.wq_race.specs.Race.{items_at}
use Rattle.wq_race.specs.Sends.{SendsAll}

-- A book that met these senders and the program's, and in the end was asked whether the ledgers of all of them, one each,
-- balance: what it answered.
pub record AnswersBalance (book : BookState) (senders : List Known) (program : Known) (answer : Result Totals Unbalanced) : Type 0 where
  pub last : BookState
  pub ledgers : List Ledger
  pub heard : HasHeard book last
  pub legal : IsLegal last.layout last.seen
  pub complete : IsComplete last.seen
  pub told : All (IsTold book.seen last.seen) senders
  pub program_told : own program.number last.seen ≡ own program.number program.seen
  pub made : All (IsLedgerOf last.seen) ledgers
  pub ledgers_are : ledgers ≡ map ledger_of senders ++ ledger_of program ∷ []
  pub outcome : MatchResult answer (Balances last ledgers) (IsUnbalanced last ledgers)

-- a queue's size, its history, and the book and the ledgers of its senders
pub record QueueRun : Type 0 where
  pub layout : Layout
  pub history : List Event
  pub book : BookState
  pub ledgers : List Ledger

-- A queue of the plan's size: the history is legal and has run to its end, and in it each of the plan's senders asked for each of
-- its own items in order, once each, and each was pushed, found pending or refused. The book is of a queue of this size whose
-- worker's own sender has the number behind the plan's senders, and that sender's ledger was made in this history. What the book
-- has seen goes on from it, legal and at its end too, without an event of the owner. It made the ledgers: one for each sender but
-- the worker's, with no count that is saturated. So none is missing and none comes twice, and a book that does not balance has a
-- saturated count of its worker's sender or owner.
pub record IsQueueRun (plan : Plan) (run : QueueRun) : Type 0 where
  pub sized : IsLayoutOf plan.senders plan.own run.layout
  pub legal : IsLegal run.layout run.history
  pub complete : IsComplete run.history
  pub queued : (s : ℕ) → s < plan.senders → SendsAll s (items_at s plan.own) (own s run.history)
  pub heard : IsPrefix run.history run.book.seen
  pub book_layout : run.book.layout ≡ run.layout
  pub book_legal : IsLegal run.book.layout run.book.seen
  pub book_complete : IsComplete run.book.seen
  pub book_untouched : own owner_seat run.book.seen ≡ own owner_seat run.history
  pub own_number : run.book.own.number ≡ plan.senders
  pub own_made : IsLedgerOf run.history run.book.own
  pub made : All (IsLedgerOf run.book.seen) run.ledgers
  pub one_each : HaveOne run.ledgers run.book.own.number run.layout.senders

-- how many items were accepted, and how many executions of items ended: barriers and the stop item are no items
abbrev pub accepted_items : QueueRun → ℕ
accepted_items run = capped (length (items_among run.layout (accepted run.history)))

abbrev pub ended_items : QueueRun → ℕ
ended_items run = capped (length (items_among run.layout (ended run.history)))

-- the book balances with the ledgers, or it does not, for no fault but that a count of the worker's sender or the owner is saturated
abbrev pub IsBalanced : QueueRun → Type 0
IsBalanced run = (totals : Totals) × Balances run.book run.ledgers totals

abbrev pub IsFaulty : QueueRun → Type 0
IsFaulty run = IsUnbalanced run.book run.ledgers (Saturated run.book.own.number)

-- it is so of one of these
abbrev pub IsSomeFaulty : List QueueRun → Type 0
IsSomeFaulty [] = ⊥
IsSomeFaulty (run ∷ runs) = IsFaulty run ⊎ IsSomeFaulty runs

-- the outcome of one queue
pub record TellsRun (run : QueueRun) (outcome : Outcome) : Type 0 where
  pub accepted_is : outcome.accepted ≡ accepted_items run
  pub ran_is : outcome.ran ≡ ended_items run
  pub balanced : MatchBool outcome.is_balanced (IsBalanced run) (IsFaulty run)

-- The outcome of these queues: its numbers are the sums over all, and it says that it balances just where the book of each does.
pub record TellsRuns (plan : Plan) (runs : List QueueRun) (outcome : Outcome) : Type 0 where
  pub each : AllByRecursion (IsQueueRun plan) runs
  pub accepted_is : outcome.accepted ≡ sum_by accepted_items runs
  pub ran_is : outcome.ran ≡ sum_by ended_items runs
  pub same : outcome.accepted ≡ outcome.ran
  pub balanced : MatchBool outcome.is_balanced (AllByRecursion IsBalanced runs) (IsSomeFaulty runs)

-- the outcome of a plan: for each of its queues a run, of which it tells
pub record TellsPlan (plan : Plan) (outcome : Outcome) : Type 0 where
  pub runs : List QueueRun
  pub count : length runs ≡ plan.queues
  pub tells : TellsRuns plan runs outcome

-- What an outcome makes of a book's answer, of what its senders and the program queued, and of what its work ran.
abbrev pub IsOutcomeOf : Result Totals Unbalanced → ℕ → ℕ → ℕ → Outcome → Type 0
IsOutcomeOf (Ok totals) queued stops ran outcome =
    (outcome.is_balanced ≡ true) × (outcome.ran ≡ ran) × (outcome.accepted ≡ (if totals.executed == queued + stops then queued else ran))
IsOutcomeOf (Err fault) queued stops ran outcome = (outcome.is_balanced ≡ false) × (outcome.ran ≡ ran) × (outcome.accepted ≡ ran)

-- an outcome of two, added up
pub record AreBoth (one other sum : Outcome) : Type 0 where
  pub accepted_is : sum.accepted ≡ one.accepted + other.accepted
  pub ran_is : sum.ran ≡ one.ran + other.ran
  pub balanced_is : sum.is_balanced ≡ (one.is_balanced && other.is_balanced)
