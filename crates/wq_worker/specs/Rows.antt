-- Steps of a worker, one after another.
use Rattle.std.specs.Prelude.{◌≡◌, ℕ, ◌+◌, ◌<◌, ◌≤◌, List, [], ◌∷◌, length}
use Rattle.wq_words.specs.declared.event.Event.TheVariants.{Close, Drain, Resume}
use Rattle.wq_words.specs.History.{accepted, ended, IsClosed, IsShut, IsDraining}
use Rattle.wq_words.specs.Legal.{HasRunOut}
use Rattle.wq_worker.specs.declared.ran.Ran.{Ran}
use Rattle.wq_worker.specs.declared.ran.Ran.TheVariants.{Item, Barrier, Stop, Nothing, Owing}
use Rattle.wq_worker.specs.declared.drained.Drained.{Drained}
use Rattle.wq_worker.specs.declared.drained.Drained.TheVariants.{Empty, TooLong}
use Rattle.wq_worker.specs.State.{WorkerState, Moves}
use Rattle.wq_worker.specs.Step.{stays, RunsBy}

-- an execution ended, and it was not that of the stop item
abbrev pub GoesOn : Ran → Type 0
GoesOn (Item k) = Unit {0}
GoesOn (Barrier b) = Unit {0}
GoesOn _ = ⊥

-- the stop item ran, nothing waits, or an execution is owed
abbrev pub Breaks : Ran → Type 0
Breaks (Item k) = ⊥
Breaks (Barrier b) = ⊥
Breaks _ = Unit {0}

-- an execution ended
abbrev pub IsExecution : Ran → Type 0
IsExecution Nothing = ⊥
IsExecution (Owing k) = ⊥
IsExecution _ = Unit {0}

abbrev pub IsNotStop : Ran → Type 0
IsNotStop Stop = ⊥
IsNotStop _ = Unit {0}

-- one where an execution ended
abbrev pub ended_by_answer : Ran → ℕ
ended_by_answer Nothing = 0
ended_by_answer (Owing k) = 0
ended_by_answer _ = 1

-- any number of steps, one after another
pub data Along {X : Type 0} (step : X → X → Type 0) : X → X → Type 0 where
  here : (a : X) → Along step a a
  onward : (a b c : X) → Along step a b → step b c → Along step a c

module _ {W : Type 0} where
  -- the queue is closed where it was not
  pub data Closes (a b : WorkerState W) : Type 0 where
    was_closed : IsClosed a.seen → b ≡ a → Closes a b
    closes : ¬ IsClosed a.seen → Moves (Close ∷ []) 0 a b → b.work ≡ a.work → b.unqueued ≡ a.unqueued → Closes a b

  -- a drain begins where the queue was open
  pub data Shuts (a b : WorkerState W) : Type 0 where
    was_shut : IsShut a.seen → b ≡ a → Shuts a b
    drains : ¬ IsShut a.seen → Moves (Drain ∷ []) 0 a b → b.work ≡ a.work → b.unqueued ≡ a.unqueued → Shuts a b

  -- the queue is open again where it drained
  pub data Resumes (a b : WorkerState W) : Type 0 where
    stays_closed : IsClosed a.seen → b ≡ a → Resumes a b
    reopens : IsDraining a.seen → Moves (Resume ∷ []) 0 a b → b.work ≡ a.work → b.unqueued ≡ a.unqueued → Resumes a b

module _ {W : Type 0} (may : W → ℕ → List ℕ → W → Type 0) (gives : W → W → Type 0) where
  -- n steps, each with an answer of these
  pub data RowBy (P : Ran → Type 0) : ℕ → WorkerState W → WorkerState W → Type 0 where
    none : (a : WorkerState W) → RowBy P 0 a a
    more : (n : ℕ) (r : Ran) (a b c : WorkerState W) → RowBy P n a b → P r → RunsBy may gives r b c → RowBy P (n + 1) a c

  -- n executions ended: as many as the limit, or fewer where a step broke the row off
  pub data RunsSomeBy (limit n : ℕ) (a c : WorkerState W) : Type 0 where
    full : RowBy GoesOn n a c → n ≡ limit → RunsSomeBy limit n a c
    broken : (m : ℕ) (r : Ran) (b : WorkerState W) → RowBy GoesOn m a b → m < limit → Breaks r → RunsBy may gives r b c → n ≡ m + ended_by_answer r
        → RunsSomeBy limit n a c

  -- the worker goes on until the stop item ran, and no longer
  pub record ServesBy (a c : WorkerState W) : Type 0 where
    pub steps : ℕ
    pub last : WorkerState W
    pub row : RowBy IsNotStop steps a last
    pub stops : RunsBy may gives Stop last c

  -- n executions, no more than the limit, after which so many numbers are left; some only after as many as the limit
  pub record RunsOutBy (limit left : ℕ) (a b : WorkerState W) : Type 0 where
    pub steps : ℕ
    pub within : steps ≤ limit
    pub row : RowBy IsExecution steps a b
    pub left_is : left + length (ended b.seen) ≡ length (accepted b.seen)
    pub stops : 0 < left → steps ≡ limit

  -- A drain begins where the queue was open. After at most as many executions as the limit all that was accepted has ended,
  -- and a queue that drains is resumed.
  pub record EmptiesBy (limit : ℕ) (a c : WorkerState W) : Type 0 where
    pub began : WorkerState W
    pub last : WorkerState W
    pub steps : ℕ
    pub shuts : Shuts a began
    pub within : steps ≤ limit
    pub row : RowBy IsExecution steps began last
    pub run_out : HasRunOut last.seen
    pub resumes : Resumes last c

  -- A drain begins where the queue was open. After exactly as many executions as the limit so many numbers are accepted and
  -- have not ended, and a queue that drains does so still.
  pub record LeavesSomeBy (limit left : ℕ) (a c : WorkerState W) : Type 0 where
    pub began : WorkerState W
    pub shuts : Shuts a began
    pub row : RowBy IsExecution limit began c
    pub some_left : 0 < left
    pub left_is : left + length (ended c.seen) ≡ length (accepted c.seen)

  abbrev pub DrainsBy : ℕ → Drained → WorkerState W → WorkerState W → Type 0
  DrainsBy limit Empty a c = EmptiesBy limit a c
  DrainsBy limit (TooLong left) a c = LeavesSomeBy limit left a c

-- where nothing is given back to the work
module _ {W : Type 0} (may : W → ℕ → List ℕ → W → Type 0) where
  abbrev pub RunsSome : ℕ → ℕ → WorkerState W → WorkerState W → Type 0
  RunsSome = RunsSomeBy may stays

  abbrev pub Serves : WorkerState W → WorkerState W → Type 0
  Serves = ServesBy may stays

  abbrev pub Drains : ℕ → Drained → WorkerState W → WorkerState W → Type 0
  Drains = DrainsBy may stays
