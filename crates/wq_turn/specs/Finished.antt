-- What is left of a queue that has run to its end.
use Rattle.std.specs.Prelude.{◌≡◌, ℕ, List}
use Rattle.wq_words.specs.Legal.{IsLegal, IsComplete}
use Rattle.wq_live.specs.Counts.{sender_counts}
use Rattle.wq_ledger.specs.Book.{BookState}
use Rattle.wq_worker.specs.Destroy.{HasRunAccepted}
use Rattle.wq_turn.specs.declared.worker_id.WorkerId.{WorkerId}

-- a work and a book of this worker's queue, which has run to its end: the work has run what was accepted, and the book has what
-- the worker's sender counted in all
pub record IsFinishedBy {W B : Type 0} (book : B → BookState) (has_run : W → B → Type 0) (id : WorkerId) (finished : W × B) : Type 0 where
  pub queue_is : (book finished.1).queue ≡ id.queue
  pub layout_is : (book finished.1).layout ≡ id.layout
  pub number_is : (book finished.1).own.number ≡ id.number
  pub counts_are : (book finished.1).own.counts ≡ sender_counts (book finished.1).own.number (book finished.1).seen
  pub legal : IsLegal (book finished.1).layout (book finished.1).seen
  pub complete : IsComplete (book finished.1).seen
  pub ran_accepted : has_run finished.0 finished.1

-- the same where items bring no values, by the log of the work
abbrev pub IsFinished : {W : Type 0} → (W → List ℕ) → WorkerId → W × BookState → Type 0
IsFinished log = IsFinishedBy (λ b. b) (HasRunAccepted log)
