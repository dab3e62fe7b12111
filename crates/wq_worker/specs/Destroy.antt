-- What a destroy gives: the work and the book of a queue that has run to its end, or the same worker with what is left.
use Rattle.std.specs.Prelude.{◌≡◌, ℕ, ◌+◌, ◌<◌, ◌≤◌, List, length}
use Rattle.wq_words.specs.History.{accepted, ended, IsClosed}
use Rattle.wq_words.specs.Legal.{IsLegal, IsComplete}
use Rattle.wq_live.specs.Counts.{sender_counts}
use Rattle.wq_ledger.specs.Book.{BookState}
use Rattle.wq_worker.specs.State.{WorkerState, items_among, IsSameWorker}
use Rattle.wq_worker.specs.Step.{stays}
use Rattle.wq_worker.specs.Rows.{RowBy, IsExecution, Closes}

-- the book of this worker's queue and sender, with the history that the worker has seen, and what its sender counted in it
abbrev pub IsBookOf : {W : Type 0} → WorkerState W → BookState → Type 0
IsBookOf w book = (book.queue ≡ w.queue) × (book.layout ≡ w.layout) × (book.seen ≡ w.seen) × (book.own.number ≡ w.number)
    × (book.own.counts ≡ sender_counts w.number w.seen)

-- `logs` says what the work has logged once the book is made
module _ {W : Type 0} (logs : W → BookState → Type 0) (may : W → ℕ → List ℕ → W → Type 0) (gives : W → W → Type 0) where
  -- The queue is closed where it was not, and executions follow until all that was accepted has ended. The work has logged
  -- what was accepted, and the book is of that history, of this worker's queue and sender, with what the sender counted in it.
  pub record DestroysBy (limit : ℕ) (a : WorkerState W) (work : W) (book : BookState) : Type 0 where
    pub closed : WorkerState W
    pub last : WorkerState W
    pub steps : ℕ
    pub closes : Closes a closed
    pub within : steps ≤ limit
    pub row : RowBy may gives IsExecution steps closed last
    pub same : IsSameWorker a last
    pub complete : IsComplete last.seen
    pub work_is : work ≡ last.work
    pub queue_is : book.queue ≡ a.queue
    pub layout_is : book.layout ≡ a.layout
    pub own_is : book.own.number ≡ a.number
    pub seen_is : book.seen ≡ last.seen
    pub counts_are : book.own.counts ≡ sender_counts book.own.number book.seen
    pub legal : IsLegal book.layout book.seen
    pub ran_accepted : logs work book

module _ {W : Type 0} (may : W → ℕ → List ℕ → W → Type 0) (gives : W → W → Type 0) where
  -- as many executions as the limit, after which so many are left to the same worker, whose queue is closed
  pub record LeavesUnfinishedBy (limit : ℕ) (a : WorkerState W) (b : WorkerState W) (left : ℕ) : Type 0 where
    pub closed : WorkerState W
    pub closes : Closes a closed
    pub row : RowBy may gives IsExecution limit closed b
    pub same : IsSameWorker a b
    pub legal : IsLegal b.layout b.seen
    pub is_closed : IsClosed b.seen
    pub some_left : 0 < left
    pub left_is : left + length (ended b.seen) ≡ length (accepted b.seen)

-- the work has run the accepted items, in order
abbrev pub HasRunAccepted : {W : Type 0} → (W → List ℕ) → W → BookState → Type 0
HasRunAccepted log work book = log work ≡ items_among book.layout (accepted book.seen)

-- where nothing is given back to the work: `log` says which items it has run
module _ {W : Type 0} (log : W → List ℕ) (may : W → ℕ → List ℕ → W → Type 0) where
  abbrev pub Destroys : ℕ → WorkerState W → W → BookState → Type 0
  Destroys = DestroysBy (HasRunAccepted log) may stays

module _ {W : Type 0} (may : W → ℕ → List ℕ → W → Type 0) where
  abbrev pub LeavesUnfinished : ℕ → WorkerState W → WorkerState W → ℕ → Type 0
  LeavesUnfinished = LeavesUnfinishedBy may stays
