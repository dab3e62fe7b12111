-- One step of a worker, of any kind.
use Rattle.std.specs.Prelude.{ℕ, List, [], ◌∷◌}
use Rattle.wq_words.specs.declared.event.Event.{Event}
use Rattle.wq_words.specs.declared.event.Event.TheVariants.{Take, Rest, Close, Drain, Resume}
use Rattle.wq_worker.specs.declared.ran.Ran.{Ran}
use Rattle.wq_worker.specs.State.{WorkerState, Moves}
use Rattle.wq_worker.specs.Resting.{LeavesWork}
use Rattle.wq_worker.specs.Step.{stays, RunsBy}

-- what a step adds that runs nothing: no event, or one by which the owner takes, rests, closes, drains or resumes
pub data RunsNothing : List Event → Type 0 where
  no_event : RunsNothing []
  a_take : RunsNothing (Take ∷ [])
  a_rest : RunsNothing (Rest ∷ [])
  a_close : RunsNothing (Close ∷ [])
  a_drain : RunsNothing (Drain ∷ [])
  a_resume : RunsNothing (Resume ∷ [])

-- a run with any answer; or a step that runs nothing and leaves the work, and what is still to be queued, as they were
pub data WorksInStepBy {W : Type 0} (may : W → ℕ → List ℕ → W → Type 0) (gives : W → W → Type 0) (a b : WorkerState W) : Type 0 where
  runs : (r : Ran) → RunsBy may gives r a b → WorksInStepBy may gives a b
  keeps : (es : List Event) → RunsNothing es → Moves es 0 a b → LeavesWork a b → WorksInStepBy may gives a b

-- where nothing is given back to the work
abbrev pub WorksInStep : {W : Type 0} → (W → ℕ → List ℕ → W → Type 0) → WorkerState W → WorkerState W → Type 0
WorksInStep may = WorksInStepBy may stays
