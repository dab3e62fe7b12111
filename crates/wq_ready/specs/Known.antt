-- What a clause sees of a ready queue and of a caller.
use Rattle.std.specs.Prelude.{◌≡◌, ℕ, zero, suc, List, [], ◌∷◌, ◌++◌}
use Rattle.atomic_table.specs.Seated.{TableId}
use Rattle.wq_ready.specs.declared.size.Size.{Size}
use Rattle.wq_ready.specs.declared.event.ReadyEvent.{ReadyEvent}
use Rattle.wq_ready.specs.Legal.{IsReadyLegal}
use Rattle.wq_ready.specs.Seen.{GrowsReady}

-- which ready queue it is, and how large
pub record Identity : Type 0 where
  pub id : TableId
  pub size : Size

-- a caller's ready queue, its number, and the history that it has seen
pub record CallerState : Type 0 where
  pub ready : Identity
  pub number : ℕ
  pub seen : List ReadyEvent

-- it is a caller of this ready queue
abbrev pub IsCallerOf : Identity → CallerState → Type 0
IsCallerOf ready caller = caller.ready ≡ ready

-- it is the same caller
pub record IsSameCaller (old new : CallerState) : Type 0 where
  pub ready_is : new.ready ≡ old.ready
  pub number_is : new.number ≡ old.number

-- The same caller goes on to see more, and what it has seen is legal. In what came new its own events are just xs.
pub record CallerSees (xs : List ReadyEvent) (old new : CallerState) : Type 0 where
  pub same : IsSameCaller old new
  pub grows : GrowsReady old.number xs old.seen new.seen
  pub legal : IsReadyLegal new.ready.size new.seen

-- some legal history that goes on from what the caller has seen, with no event of its own added, is such
pub record CouldBe (IsSuch : List ReadyEvent → Type 0) (caller : CallerState) : Type 0 where
  pub history : List ReadyEvent
  pub grows : GrowsReady caller.number [] caller.seen history
  pub legal : IsReadyLegal caller.ready.size history
  pub is_such : IsSuch history

-- a caller of a new ready queue, and the callers below m
abbrev pub new_caller : Identity → ℕ → CallerState
new_caller ready number = record { ready = ready; number = number; seen = [] }

abbrev pub new_callers : Identity → ℕ → List CallerState
new_callers ready zero = []
new_callers ready (suc m) = new_callers ready m ++ new_caller ready m ∷ []
