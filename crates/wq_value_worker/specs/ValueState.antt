-- What a clause sees of a worker whose items bring values.
use Rattle.std.specs.Prelude.{◌≡◌, ℕ, ◌<◌, List, length}
use Rattle.std.specs.Prelude.{Option}
use Rattle.wq_words.specs.History.{accepted, begun}
use Rattle.wq_words.specs.Legal.{IsLegal}
use Rattle.wq_words.specs.Seen.{owner_seat}
use Rattle.wq_ledger.specs.Book.{BookState}
use Rattle.wq_values.specs.KnownWith.{KnownWith, MatchesAccepted, handed_in}
use Rattle.wq_values.specs.ValuePairs.{KnownValuePair, owner_of}
use Rattle.wq_worker.specs.State.{WorkerState, items_among}
use Rattle.wq_value_worker.specs.Returned.{pairs_of, numbers_in}

-- what it is without values, what each accepted number of the history that it has seen brought, in their order, and the pairs that
-- an execution that has not ended has still to queue
pub record ValueWorkerState (V W : Type 0) : Type 0 where
  pub worker : WorkerState W
  pub brought : List (Option V)
  pub unqueued : List (ℕ × V)

-- its owner, and its sender
abbrev pub owner_in : {V W : Type 0} → ValueWorkerState V W → KnownWith V
owner_in w = record { known = record { queue = w.worker.queue; layout = w.worker.layout; number = owner_seat; seen = w.worker.seen }; brought = w.brought }

abbrev pub sender_in : {V W : Type 0} → ValueWorkerState V W → KnownWith V
sender_in w = record {
  known = record { queue = w.worker.queue; layout = w.worker.layout; number = w.worker.number; seen = w.worker.seen };
  brought = w.brought;
}

-- the pairs that have begun: each item with what its own queueing brought, in order
abbrev pub ran_pairs : {V W : Type 0} → ValueWorkerState V W → List (ℕ × V)
ran_pairs w = pairs_of (begun w.worker.seen) (handed_in (owner_in w))

-- The work has run what has begun, each item with the value that its own queueing brought, in order: the numbers of what it ran are
-- all the items that have begun, and each accepted number has its place in what was brought.
pub record HasRunBegunPairs {V W : Type 0} (log : W → List (ℕ × V)) (w : ValueWorkerState V W) : Type 0 where
  pub pairs : log w.worker.work ≡ ran_pairs w
  pub numbers : numbers_in (log w.worker.work) ≡ items_among w.worker.layout (begun w.worker.seen)
  pub matches : MatchesAccepted (owner_in w)

-- The work has run what the book's history accepted, each item with the value that it brought, in order: the numbers of what it
-- ran are all the accepted items, and each accepted number has its place in what was brought.
pub record HasRunPairs {V W : Type 0} (log : W → List (ℕ × V)) (brought : List (Option V)) (work : W) (book : BookState) : Type 0 where
  pub pairs : log work ≡ pairs_of (accepted book.seen) brought
  pub numbers : numbers_in (log work) ≡ items_among book.layout (accepted book.seen)
  pub as_many : length brought ≡ length (accepted book.seen)

-- what holds of its parts: its number is below the senders, and the work has run the pairs that have begun
pub record AreValueParts {V : Type 0} (log : List (ℕ × V)) (tries : ℕ) (p : KnownValuePair V) : Type 0 where
  pub legal : IsLegal p.known.layout p.known.seen
  pub numbered : p.known.number < p.known.layout.senders
  pub some_try : 0 < tries
  pub whole : MatchesAccepted (owner_of p)
  pub logged : log ≡ pairs_of (begun p.known.seen) (handed_in (owner_of p))
