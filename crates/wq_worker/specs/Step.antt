-- What one step of a worker answers and adds.
use Rattle.std.specs.Prelude.{◌≡◌, ℕ, ◌+◌, ◌<◌, ◌≤◌, false, Some, List, [], ◌∷◌, ◌++◌}
use Rattle.wq_words.specs.declared.layout.Layout.{Layout}
use Rattle.wq_words.specs.declared.event.Event.{Event}
use Rattle.wq_words.specs.declared.event.Event.TheVariants.{Begin, End}
use Rattle.wq_words.specs.Numbers.{stop_number}
use Rattle.wq_words.specs.History.{shut, running, IsRunning}
use Rattle.wq_worker.specs.declared.ran.Ran.{Ran}
use Rattle.wq_worker.specs.declared.ran.Ran.TheVariants.{Item, Barrier, Stop, Nothing, Owing}
use Rattle.wq_worker.specs.Seats.{taking, NothingWaits}
use Rattle.wq_worker.specs.Resting.{HasNoneLeft}
use Rattle.wq_worker.specs.Follow.{Follows, contended_of}
use Rattle.wq_worker.specs.State.{WorkerState, Moves}

-- this is the answer to an execution of the number k; barriers are counted from 0
abbrev pub IsKind : Layout → ℕ → Ran → Type 0
IsKind layout k (Item j) = (j ≡ k) × (k < layout.items)
IsKind layout k (Barrier b) = (layout.items + b ≡ k) × (b < layout.barriers)
IsKind layout k Stop = k ≡ stop_number layout
IsKind layout k Nothing = ⊥
IsKind layout k (Owing j) = ⊥

-- nothing waits, and the work was not touched
abbrev pub FindsNothing : {W : Type 0} → WorkerState W → WorkerState W → Type 0
FindsNothing a b = NothingWaits b.seen × (b.work ≡ a.work) × Moves (taking a.seen) 0 a b × HasNoneLeft b.seen

-- what runs after a step with this answer: the number that is owed, and else nothing
abbrev pub LeavesRunning : Ran → List Event → Type 0
LeavesRunning (Owing k) h = running h ≡ Some k
LeavesRunning _ h = ¬ IsRunning h

-- a work is as it was
abbrev pub stays : {W : Type 0} → W → W → Type 0
stays a b = b ≡ a

-- `may` says what a run may answer, and what it and the givings back of its step may leave of the work; `gives` says what the
-- givings back of a step may leave of it that goes on with what was owed
module _ {W : Type 0} (may : W → ℕ → List ℕ → W → Type 0) (gives : W → W → Type 0) where
  -- The execution of k has begun, after the events es: f is to be queued, and the step leaves the work v. An item was run, by which the
  -- work may answer f; another number asks for nothing; and what was owed goes on with the rest of its list.
  pub data StartsBy (a : WorkerState W) (k : ℕ) (f : List ℕ) (v : W) (es : List Event) : Type 0 where
    item : ¬ IsRunning a.seen → k < a.layout.items → may a.work k f v → es ≡ taking a.seen ++ Begin k ∷ [] → StartsBy a k f v es
    other : ¬ IsRunning a.seen → a.layout.items ≤ k → f ≡ [] → gives a.work v → es ≡ taking a.seen ++ Begin k ∷ [] → StartsBy a k f v es
    owed : running a.seen ≡ Some k → f ≡ a.unqueued → gives a.work v → es ≡ [] → StartsBy a k f v es

  -- the execution of k ended, and all that it asked for was queued before
  pub data EndsBy (a : WorkerState W) (k : ℕ) (b : WorkerState W) : Type 0 where
    ends : (f : List ℕ) (es fs : List Event) → StartsBy a k f b.work es → Follows a.layout.items a.number (shut a.seen) f fs
        → Moves (es ++ (fs ++ End k ∷ [])) 0 a b → ¬ IsRunning b.seen → EndsBy a k b

  -- the execution of k is owed: the queueing of j, an item, was contended, and the list from j on is left
  pub data OwesBy (a : WorkerState W) (k : ℕ) (b : WorkerState W) : Type 0 where
    owes : (f qs : List ℕ) (j : ℕ) (more : List ℕ) (es fs : List Event) → StartsBy a k f b.work es → f ≡ qs ++ j ∷ more → j < a.layout.items
        → b.unqueued ≡ j ∷ more → shut a.seen ≡ false → Follows a.layout.items a.number (shut a.seen) qs fs
        → Moves (es ++ (fs ++ contended_of a.number j)) a.tries a b → running b.seen ≡ Some k → OwesBy a k b

  -- the worker goes from a to b with this answer
  abbrev pub RunsBy : Ran → WorkerState W → WorkerState W → Type 0
  RunsBy Nothing a b = (¬ IsRunning a.seen) × NothingWaits b.seen × (b.work ≡ a.work) × Moves (taking a.seen) 0 a b
  RunsBy (Owing k) a b = OwesBy a k b
  RunsBy r a b = (k : ℕ) × IsKind a.layout k r × EndsBy a k b

-- where nothing is given back to the work
module _ {W : Type 0} (may : W → ℕ → List ℕ → W → Type 0) where
  abbrev pub Runs : Ran → WorkerState W → WorkerState W → Type 0
  Runs = RunsBy may stays

  -- the execution of k began and the work was run, and nothing of its list was queued
  pub record Begins (a : WorkerState W) (k : ℕ) (b : WorkerState W) : Type 0 where
    pub moves : Moves (taking a.seen ++ Begin k ∷ []) 0 a b
    pub runs : running b.seen ≡ Some k
    pub item : k < a.layout.items → may a.work k b.unqueued b.work
    pub other : a.layout.items ≤ k → (b.unqueued ≡ []) × (b.work ≡ a.work)
