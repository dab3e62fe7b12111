-- What is left of the queues of a pool that has run to its end.
use Rattle.std.specs.Prelude.{◌≡◌, ℕ, List, [], ◌∷◌, Some, slice_get}
use mathlib.Core.List.{IsPrefix}
use Rattle.wq_words.specs.Legal.{IsLegal, IsComplete}
use Rattle.wq_ledger.specs.Book.{BookState}
use Rattle.wq_worker.specs.Destroy.{HasRunAccepted, IsBookOf}
use Rattle.wq_worker.specs.Rows.{Along}
use Rattle.wq_worker.specs.State.{WorkerState}
use Rattle.wq_turn.specs.declared.worker_id.WorkerId.{WorkerId}
use Rattle.wq_turn.specs.Finished.{IsFinishedBy}
use Rattle.wq_pool.specs.Known.{TurnState, seen_by}

-- `book` says what a book is without values, `has_run` that a work has run what was accepted in the history of a book
module _ {W B : Type 0} (book : B → BookState) (has_run : W → B → Type 0) where
  -- one for each worker, in their order
  abbrev pub AreFinishedBy : List WorkerId → List (W × B) → Type 0
  AreFinishedBy [] [] = Unit {0}
  AreFinishedBy (id ∷ ids) (one ∷ more) = IsFinishedBy book has_run id one × AreFinishedBy ids more
  AreFinishedBy [] (one ∷ more) = ⊥
  AreFinishedBy (id ∷ ids) [] = ⊥

  -- a work and a book of one queue, whose legal history is complete: the work has run what was accepted
  pub record RanToEndBy (finished : W × B) : Type 0 where
    pub legal : IsLegal (book finished.1).layout (book finished.1).seen
    pub complete : IsComplete (book finished.1).seen
    pub ran_accepted : has_run finished.0 finished.1

-- of plain workers
module _ {W : Type 0} (log : W → List ℕ) where
  abbrev pub AreFinished : List WorkerId → List (W × BookState) → Type 0
  AreFinished = AreFinishedBy (λ b. b) (HasRunAccepted log)

-- `state` says what a worker is without values, `book` the same of a book, `has_brought` that a book has what was brought
module _ {K W B : Type 0} (state : K → WorkerState W) (book : B → BookState) (has_brought : K → B → Type 0) where
  -- the work of this worker, and the book of what it has seen and of what was brought
  pub record ArePartsOf (worker : K) (parts : W × B) : Type 0 where
    pub work_is : parts.0 ≡ (state worker).work
    pub book_is : IsBookOf (state worker) (book parts.1)
    pub brought : has_brought worker parts.1

  -- those of the workers in hand, by place
  abbrev pub AreTakenApart : List (TurnState K) → List (W × B) → Type 0
  AreTakenApart turns all = (q : ℕ) (parts : W × B) → slice_get all q ≡ Some parts
      → (t : TurnState K) × (slice_get turns q ≡ Some t) × ArePartsOf t.worker parts

-- `deals` says what one step does
module _ {K W B : Type 0} (state : K → WorkerState W) (deals : K → K → Type 0) (book : B → BookState) (has_brought : K → B → Type 0) where
  -- The history of the book begins with what the worker had seen; step by step that became one whose work and book these are.
  pub record EndsFrom (old : K) (parts : W × B) : Type 0 where
    pub begins : IsPrefix (seen_by state old) (book parts.1).seen
    pub last : K
    pub along : Along deals old last
    pub parts_of_last : ArePartsOf state book has_brought last parts

  -- each goes on from what the worker at its place was when it was handed in
  abbrev pub BeginAsHandedIn : List K → List (W × B) → Type 0
  BeginAsHandedIn states all = (q : ℕ) (finished : W × B) → slice_get all q ≡ Some finished
      → (old : K) × (slice_get states q ≡ Some old) × EndsFrom old finished
