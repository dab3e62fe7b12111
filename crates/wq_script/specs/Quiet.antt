-- The executions of a worker, where no other seat steps meanwhile.
use Rattle.std.specs.Prelude.{◌≡◌, ℕ, ◌<◌, Bool, not, Option, List, [], ◌++◌, length, filter, All}
use mathlib.Core.List.{IsPrefix}
use Rattle.wq_words.specs.declared.layout.Layout.{Layout}
use Rattle.wq_words.specs.declared.event.Event.{Event}
use Rattle.wq_words.specs.History.{next, IsRunning}
use Rattle.wq_words.specs.Legal.{IsLegal}
use Rattle.wq_words.specs.Seen.{is_ours}
use Rattle.arrayvec.specs.ArrayVec.{ArrayVec}
use Rattle.wq_worker.specs.State.{WorkerState, Moves}
use Rattle.wq_meaning.specs.Execution.{after_execution, after_executions, ended_since}
use Rattle.wq_script.specs.declared.lists.Lists.{Lists}

-- z is legal, and behind h each of its events is of the worker's sender n or of the owner
pub record Quiet (wide : Layout) (n : ℕ) (h z : List Event) : Type 0 where
  pub legal : IsLegal wide z
  pub rest : List Event
  pub is : z ≡ h ++ rest
  pub none : filter (λ e. not (is_ours n e)) rest ≡ []

-- each item of each list is below n
abbrev pub ListsFit : ℕ → List (ArrayVec ℕ) → Type 0
ListsFit n follows = All (λ follow. All (λ k. k < n) follow.items) follows

-- nothing runs, each queueing has one try, and there is a list for each item, of items
pub record IsWorkerIdle (wide : Layout) (a : WorkerState Lists) : Type 0 where
  pub layout : a.layout ≡ wide
  pub idle : ¬ IsRunning a.seen
  pub tries : a.tries ≡ 1
  pub count : length a.work.follows.items ≡ wide.items
  pub fit : ListsFit wide.items a.work.follows.items

-- one execution, of the number that was next, or none
pub record Executed (a b : WorkerState Lists) (r : Option ℕ) : Type 0 where
  pub next_is : r ≡ next a.seen
  pub seen_is : b.seen ≡ after_execution a.number a.work.follows.items a.seen
  pub idle : ¬ IsRunning b.seen

-- the worker made some events, while others may have come, and its lists are as they were
pub record HasStepped (a b : WorkerState Lists) : Type 0 where
  pub events : List Event
  pub others : ℕ
  pub moves : Moves events others a b
  pub lists : b.work.follows ≡ a.work.follows

-- a step of the worker, which was an execution if it was quiet
pub record ExecutesOne (a b : WorkerState Lists) (r : Option ℕ) : Type 0 where
  pub stepped : HasStepped a b
  pub quiet : (wide : Layout) (z : List Event) → IsWorkerIdle wide a → Quiet wide a.number a.seen z → IsPrefix b.seen z → Executed a b r

-- executions one after another, which were those of a script if they were quiet
pub record ExecutesRow (limit : ℕ) (ends : ℕ → Bool) (a b : WorkerState Lists) (ran : List ℕ) : Type 0 where
  pub stepped : HasStepped a b
  pub quiet : (wide : Layout) (z : List Event) → IsWorkerIdle wide a → Quiet wide a.number a.seen z → IsPrefix b.seen z
      → (b.seen ≡ after_executions a.number a.work.follows.items ends limit a.seen) × (ran ≡ ended_since a.seen b.seen) × (¬ IsRunning b.seen)
