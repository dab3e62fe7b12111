-- What a worker does while its queue is in hand.
use Rattle.std.specs.Prelude.{◌≡◌, ℕ, ◌+◌, ◌<◌, ◌≤◌, Bool, true, false, Option, Some, None, List, [], ◌∷◌, length}
use Rattle.wq_words.specs.declared.event.Event.{Event}
use Rattle.wq_words.specs.declared.event.Event.TheVariants.{Rest}
use Rattle.wq_words.specs.History.{ended, IsRunning}
use Rattle.wq_words.specs.Legal.{IsComplete}
use Rattle.wq_live.specs.Batch.{next_of}
use Rattle.wq_worker.specs.declared.ran.Ran.{Ran}
use Rattle.wq_worker.specs.declared.ran.Ran.TheVariants.{Owing}
use Rattle.wq_worker.specs.Resting.{rest_events, LeavesWork, IsReady, IsUnready}
use Rattle.wq_worker.specs.Rows.{IsExecution, ended_by_answer}
use Rattle.wq_worker.specs.State.{WorkerState, Moves}
use Rattle.wq_worker.specs.Step.{RunsBy}
use Rattle.wq_turn.specs.declared.runner.Progress.{Progress}
use Rattle.wq_turn.specs.declared.runner.Progress.TheVariants.{Ended, Owed, Done}

-- the executions that ended in between are no more than this, or just as many
abbrev pub EndsWithin : ℕ → List Event → List Event → Type 0
EndsWithin limit v w = length (ended w) ≤ length (ended v) + limit

abbrev pub EndsJust : ℕ → List Event → List Event → Type 0
EndsJust n v w = length (ended w) ≡ length (ended v) + n

module _ {W : Type 0} (may : W → ℕ → List ℕ → W → Type 0) (gives : W → W → Type 0) where
  -- One step after another, by which n executions ended: the worker gets ready and a number waits, or none does; it runs one;
  -- it rests, or tries to.
  pub data StepRow : ℕ → WorkerState W → WorkerState W → Type 0 where
    still : (a : WorkerState W) → StepRow 0 a a
    ready : (n k : ℕ) (a b c : WorkerState W) → StepRow n a b → IsReady b k c → StepRow n a c
    unready : (n : ℕ) (a b c : WorkerState W) → StepRow n a b → IsUnready b c → StepRow n a c
    run : (n : ℕ) (r : Ran) (a b c : WorkerState W) → StepRow n a b → RunsBy may gives r b c → StepRow (n + ended_by_answer r) a c
    rest : (n : ℕ) (rests : Bool) (a b c : WorkerState W) → StepRow n a b → LeavesWork b c → Moves (rest_events rests) 0 b c → StepRow n a c

  -- After at most so many executions nothing is left to do: the last step was a rest, or the queue has run to its end.
  pub data Finishes (limit : ℕ) (a c : WorkerState W) : Type 0 where
    rested : (n : ℕ) (b : WorkerState W) → n ≤ limit → StepRow n a b → LeavesWork b c → Moves (Rest ∷ []) 0 b c → Finishes limit a c
    completed : (n : ℕ) → n ≤ limit → StepRow n a c → IsComplete c.seen → Finishes limit a c

  -- Something is left: after just so many executions a number that was taken waits; or the last step was an execution that is
  -- owed, before the limit; or with the limit 0 an execution was owed already.
  pub data Pauses (limit : ℕ) (a c : WorkerState W) : Type 0 where
    limited : (k : ℕ) → StepRow limit a c → EndsJust limit a.seen c.seen → ¬ IsRunning c.seen → next_of c.seen ≡ Some k → Pauses limit a c
    owes : (n k : ℕ) (b : WorkerState W) → n < limit → StepRow n a b → RunsBy may gives (Owing k) b c → Pauses limit a c
    owed_before : limit ≡ 0 → IsRunning a.seen → c ≡ a → Pauses limit a c

  -- a number that was taken is to be begun next
  pub record IsDue (a : WorkerState W) (k : ℕ) (c : WorkerState W) : Type 0 where
    pub steps : StepRow 0 a c
    pub idle : ¬ IsRunning c.seen
    pub next_is : next_of c.seen ≡ Some k

  -- nothing was left to do, or a number is to be begun next
  abbrev pub SettlesOne : Option ℕ → WorkerState W → WorkerState W → Type 0
  SettlesOne None a c = Finishes 0 a c × (¬ IsRunning c.seen)
  SettlesOne (Some k) a c = IsDue a k c

  -- an execution ended, or is owed
  abbrev pub RunsOne : Progress → WorkerState W → WorkerState W → Type 0
  RunsOne Ended a c = (r : Ran) × IsExecution r × RunsBy may gives r a c × (¬ IsRunning c.seen)
  RunsOne Owed a c = (k : ℕ) × RunsBy may gives (Owing k) a c
  RunsOne Done a c = ⊥

  -- one execution ended, or is owed, or nothing was left to do
  abbrev pub MakesProgress : Progress → WorkerState W → WorkerState W → Type 0
  MakesProgress Ended a c = StepRow 1 a c × (¬ IsRunning c.seen)
  MakesProgress Owed a c = (k : ℕ) × (b : WorkerState W) × StepRow 0 a b × RunsBy may gives (Owing k) b c
  MakesProgress Done a c = Finishes 0 a c × (¬ IsRunning c.seen)

  -- nothing is left to do, or something is
  abbrev pub WorksOn : ℕ → Bool → WorkerState W → WorkerState W → Type 0
  WorksOn limit true a c = Finishes limit a c × (¬ IsRunning c.seen)
  WorksOn limit false a c = Pauses limit a c
