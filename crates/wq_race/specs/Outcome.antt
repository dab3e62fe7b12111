-- The line that tells the outcome of a race, what its numbers mean, and how it was found.
use Rattle.std.specs.Prelude.{◌≡◌, ℕ, ◌*◌, ◌<◌, Bool, true, false, List, [], ◌∷◌, ◌++◌, length, codes, count_by, sum_by, map, All, MatchBool, slice_index_or}
use Rattle.std.specs.Fmt.{decimal}
use mathlib.Core.List.{IsPrefix}
use Rattle.wq_words.specs.declared.event.Event.{Event}
use Rattle.wq_words.specs.declared.event.Event.TheVariants.{Hold, Push}
use Rattle.wq_words.specs.History.{accepted, ended, is_close}
use Rattle.wq_words.specs.Legal.{IsLegal, IsComplete}
use Rattle.wq_words.specs.Seen.{own, owner_seat}
use Rattle.wq_worker.specs.State.{WorkerState, items_among, IsSameWorker}
use Rattle.wq_plan.specs.declared.plan.Plan.{Plan}
use Rattle.wq_plan.specs.Plan.{IsLayoutOf}
use Rattle.wq_race.specs.declared.run_counter.RunCounter.{RunCounter}
use Rattle.wq_race.specs.declared.outcome.Outcome.{Outcome}
use Rattle.wq_race.specs.Race.{items_at, EndsWithStop, QueuesNothing}
use Rattle.wq_live.specs.Known.{Known, IsSame}
use Rattle.wq_live.specs.Counts.{sender_counts}
use Rattle.wq_ledger.specs.declared.totals.Totals.{Totals}
use Rattle.wq_ledger.specs.declared.balance.Unbalanced.{Unbalanced}
use Rattle.wq_ledger.specs.Balance.{Balances, IsUnbalanced}
use Rattle.wq_ledger.specs.Book.{LedgerState, BookState, IsLedgerOf}

abbrev pub yes_or_no : Bool → List ℕ
yes_or_no true = codes "yes"
yes_or_no false = codes "no"

-- `accepted A ran R balanced yes`, or `no`
unfoldable pub outcome_line : Outcome → List ℕ
outcome_line o = codes "accepted " ++ decimal o.accepted ++ codes " ran " ++ decimal o.ran ++ codes " balanced " ++ yes_or_no o.is_balanced ++ 10 ∷ []

-- what a sender s makes as it queues items, where it finds each free and the queue open
abbrev pub queueings : ℕ → List ℕ → List Event
queueings s [] = []
queueings s (k ∷ ks) = Hold s k ∷ Push s k ∷ queueings s ks

-- The book of a worker's queue that ran to its end with this history: it has the ledger of the worker's own sender, and what it
-- has seen goes on from the history, legal and at its end too, without an event of the owner.
pub record IsBookAfter (worker : WorkerState RunCounter) (history : List Event) (book : BookState) : Type 0 where
  pub queue_is : book.queue ≡ worker.queue
  pub layout_is : book.layout ≡ worker.layout
  pub number_is : book.own.number ≡ worker.number
  pub own_made : IsLedgerOf history book.own
  pub heard : IsPrefix history book.seen
  pub untouched : own owner_seat book.seen ≡ own owner_seat history
  pub legal : IsLegal book.layout book.seen
  pub complete : IsComplete book.seen

-- The history of the worker's queue goes on from what the worker had seen, is legal and has run to its end. In it each of the
-- plan's senders queued its own items in order, once each, and the outcome's numbers are how many items were accepted and how
-- many executions of items ended: barriers and the stop item are no items. The worker served until the stop item had ended, and
-- the queue was closed after that. The book is that queue's, and made these ledgers: the outcome says that it balances just
-- where each sender but the worker's has one of them and they balance with the book.
pub record TellsOutcome (plan : Plan) (worker : WorkerState RunCounter) (book : BookState) (ledgers : List LedgerState) (outcome : Outcome) : Type 0 where
  pub history : List Event
  pub begins : IsPrefix worker.seen history
  pub legal : IsLegal worker.layout history
  pub complete : IsComplete history
  pub queued : (s : ℕ) → s < plan.senders → own s history ≡ queueings s (items_at s plan.own)
  pub served : (front : List Event) × IsPrefix front history × (count_by is_close front ≡ 0) × EndsWithStop worker.layout front
  pub accepted_is : outcome.accepted ≡ length (items_among worker.layout (accepted history))
  pub ran_is : outcome.ran ≡ length (items_among worker.layout (ended history))
  pub book_after : IsBookAfter worker history book
  pub made : All (IsLedgerOf book.seen) ledgers
  pub balanced : MatchBool outcome.is_balanced ((totals : Totals) × Balances book ledgers totals) ((fault : Unbalanced) × IsUnbalanced book ledgers fault)

-- the outcome is of some worker of the plan's queue, of the book of that queue, and of ledgers
pub record TellsRace (plan : Plan) (outcome : Outcome) : Type 0 where
  pub worker : WorkerState RunCounter
  pub book : BookState
  pub ledgers : List LedgerState
  pub sized : IsLayoutOf plan.senders plan.own worker.layout
  pub tells : TellsOutcome plan worker book ledgers outcome

-- as many items were accepted as the plan has, and as many ran, and the outcome says that it balances
pub record IsWhole (plan : Plan) (outcome : Outcome) : Type 0 where
  pub accepted_is : outcome.accepted ≡ plan.senders * plan.own
  pub ran_is : outcome.ran ≡ plan.senders * plan.own
  pub balanced : outcome.is_balanced ≡ true

-- the same worker, which may have seen more
pub record HasMet (old new : WorkerState RunCounter) : Type 0 where
  pub same : IsSameWorker old new
  pub begins : IsPrefix old.seen new.seen
  pub unsent : own old.number new.seen ≡ own old.number old.seen
  pub untouched : own owner_seat new.seen ≡ own owner_seat old.seen
  pub legal : IsLegal new.layout new.seen

-- the same sender, which made no event, and has seen no more than this
pub record IsKnown (seen : List Event) (old new : Known) : Type 0 where
  pub same : IsSame old new
  pub mine : own old.number new.seen ≡ own old.number old.seen
  pub known : IsPrefix new.seen seen
  pub legal : IsLegal new.layout new.seen

pub record AllKnown (seen : List Event) (olds news : List Known) : Type 0 where
  pub count : length news ≡ length olds
  pub each : (i : ℕ) (d : Known) → i < length olds → IsKnown seen (slice_index_or olds i d) (slice_index_or news i d)

-- The queue of this worker was destroyed: its sender made no event, its owner chained nothing, all that was accepted has ended,
-- the work ran the items among it, and the book has the ledger of the worker's own sender.
pub record HasEnded (old : WorkerState RunCounter) (work : RunCounter) (book : BookState) : Type 0 where
  pub queue_is : book.queue ≡ old.queue
  pub layout_is : book.layout ≡ old.layout
  pub number_is : book.own.number ≡ old.number
  pub quiet : QueuesNothing old.number old.seen book.seen
  pub legal : IsLegal book.layout book.seen
  pub complete : IsComplete book.seen
  pub made : IsLedgerOf book.seen book.own
  pub ran_is : work.ran.items ≡ items_among book.layout (accepted book.seen)

-- the ledger of a sender that makes no event more
abbrev pub ledger_of : Known → LedgerState
ledger_of s = record { number = s.number; counts = sender_counts s.number s.seen }

-- a history between these two has just the events of the sender that it has seen itself
abbrev pub IsTold : List Event → List Event → Known → Type 0
IsTold old new s = (later : List Event) × IsPrefix old later × IsPrefix later new × (own s.number later ≡ own s.number s.seen)

-- the book of the same queue, of which the owner made no event
pub record HasHeard (old new : BookState) : Type 0 where
  pub queue_is : new.queue ≡ old.queue
  pub layout_is : new.layout ≡ old.layout
  pub own_is : new.own ≡ old.own
  pub begins : IsPrefix old.seen new.seen
  pub untouched : own owner_seat new.seen ≡ own owner_seat old.seen

-- a book that met these senders and then the program's, and in the end has the ledgers of all of them
pub record HasSettled (book : BookState) (senders : List Known) (program : Known) (last : BookState) (ledgers : List LedgerState) : Type 0 where
  pub heard : HasHeard book last
  pub legal : IsLegal last.layout last.seen
  pub complete : IsComplete last.seen
  pub told : All (IsTold book.seen last.seen) senders
  pub program_told : own program.number last.seen ≡ own program.number program.seen
  pub made : All (IsLedgerOf last.seen) ledgers
  pub ledgers_are : ledgers ≡ map ledger_of senders ++ ledger_of program ∷ []

-- what the senders have queued in all, by their counts
abbrev pub queued_sum : List Known → ℕ
queued_sum senders = sum_by (λ s. (sender_counts s.number s.seen).queued) senders
