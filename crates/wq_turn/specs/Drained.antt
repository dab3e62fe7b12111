-- What is left of a closed queue, and how it was drained.
use Rattle.std.specs.Prelude.{◌≡◌, ℕ, ◌+◌, Bool, List, length}
use Rattle.wq_words.specs.History.{accepted, ended, IsClosed}
use Rattle.wq_words.specs.Legal.{IsLegal}
use Rattle.wq_worker.specs.Rows.{Closes}
use Rattle.wq_worker.specs.State.{WorkerState}
use Rattle.wq_turn.specs.Steps.{WorksOn}

-- it is closed, and so many numbers are accepted and have not ended
pub record IsDrained {W : Type 0} (left : ℕ) (w : WorkerState W) : Type 0 where
  pub legal : IsLegal w.layout w.seen
  pub closed : IsClosed w.seen
  pub left_is : left + length (ended w.seen) ≡ length (accepted w.seen)

-- The queue is closed where it was not, and the worker then works on, by up to so many executions.
pub record ClosesAndWorks {W : Type 0} (may : W → ℕ → List ℕ → W → Type 0) (gives : W → W → Type 0) (limit : ℕ) (a c : WorkerState W) : Type 0 where
  pub closed : WorkerState W
  pub is_done : Bool
  pub closes : Closes a closed
  pub works : WorksOn may gives limit is_done closed c
