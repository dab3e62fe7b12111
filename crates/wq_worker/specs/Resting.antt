-- What a worker knows and adds that serves by a loop of its own: where it has nothing left, gets ready, and rests.
use Rattle.std.specs.Prelude.{◌≡◌, ℕ, Bool, true, false, Some, None, List, [], ◌∷◌}
use Rattle.wq_words.specs.declared.event.Event.{Event}
use Rattle.wq_words.specs.declared.event.Event.TheVariants.{Rest}
use Rattle.wq_words.specs.History.{IsRunning}
use Rattle.wq_live.specs.Batch.{next_of}
use Rattle.wq_worker.specs.Seats.{taking, NothingWaits}
use Rattle.wq_worker.specs.State.{WorkerState, Moves}

-- nothing runs, and nothing that was taken waits
abbrev pub HasNoneLeft : List Event → Type 0
HasNoneLeft h = (¬ IsRunning h) × (next_of h ≡ None)

-- what a rest adds: its event where the queue rests by it
abbrev pub rest_events : Bool → List Event
rest_events true = Rest ∷ []
rest_events false = []

-- the work, and what is still to be queued, are as before
abbrev pub LeavesWork : {W : Type 0} → WorkerState W → WorkerState W → Type 0
LeavesWork a b = (b.work ≡ a.work) × (b.unqueued ≡ a.unqueued)

-- k is the oldest number that was taken and has not begun, after a take where nothing taken waited and the queue was open
pub record IsReady {W : Type 0} (a : WorkerState W) (k : ℕ) (b : WorkerState W) : Type 0 where
  pub idle : ¬ IsRunning b.seen
  pub moves : Moves (taking a.seen) 0 a b
  pub work_is : LeavesWork a b
  pub next_is : next_of b.seen ≡ Some k

-- an execution is owed, and nothing was done; or nothing waits, after a take where the queue was open
pub data IsUnready {W : Type 0} (a b : WorkerState W) : Type 0 where
  owed : IsRunning a.seen → b ≡ a → IsUnready a b
  nothing : NothingWaits b.seen → HasNoneLeft b.seen → Moves (taking a.seen) 0 a b → LeavesWork a b → IsUnready a b
