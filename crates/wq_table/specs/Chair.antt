-- What a clause sees of a chair, but for what its items bring, and what its steps do.
use Rattle.std.specs.Prelude.{◌≡◌, ℕ, [], ◌∷◌, Some, None}
use Rattle.atomic_table.specs.Seated.{TableId}
use Rattle.wq_core.specs.declared.step.Step.{Step}
use Rattle.wq_core.specs.Machine.{Machine, StandsIn}
use Rattle.wq_table.specs.declared.table.Part.{Part}
use Rattle.wq_table.specs.declared.table.Stage.{Stage}
use Rattle.wq_table.specs.declared.table.Stage.TheVariants.{Sends, Owns}
use Rattle.wq_table.specs.Law.{View, IsPartOf}
use Rattle.wq_table.specs.Plays.{AllOf}
use Rattle.wq_table.specs.Places.{chosen, besides, MakesAt}

-- which queue it is of, and what each seat that it speaks for knows: a first part, and maybe others
pub record Standing : Type 0 where
  pub queue : TableId
  pub part : Part
  pub others : View

-- its part at this place, of which the first is 0, and all its other parts
abbrev pub part_at : ℕ → Standing → Part
part_at at it = chosen at it.part it.others

abbrev pub besides_at : ℕ → Standing → View
besides_at at it = besides at it.part it.others

-- the seat is a sender's
abbrev pub IsSender : Stage → Type 0
IsSender (Sends p) = Unit {0}
IsSender (Owns cursor walked batch) = ⊥

-- a sender whose last look found this word
abbrev pub HasSeen : ℕ → Stage → Type 0
HasSeen word (Sends p) = p.seen ≡ Some word
HasSeen word (Owns cursor walked batch) = ⊥

-- and which linked k to it
abbrev pub HasLinked : ℕ → ℕ → Stage → Type 0
HasLinked word k (Sends p) = (p.seen ≡ Some word) × (p.linked ≡ Some k)
HasLinked word k (Owns cursor walked batch) = ⊥

-- the seat is the owner's
abbrev pub IsOwner : Stage → Type 0
IsOwner (Sends p) = ⊥
IsOwner (Owns cursor walked batch) = Unit {0}

-- the owner has walked all that it took
abbrev pub HasWalked : Stage → Type 0
HasWalked (Sends p) = ⊥
HasWalked (Owns cursor walked batch) = cursor ≡ None

-- the owner has nothing to begin
abbrev pub HasNone : Stage → Type 0
HasNone (Sends p) = ⊥
HasNone (Owns cursor walked batch) = batch ≡ []

-- the owner walks k next, or has walked all that it took and k is the oldest number of its batch
abbrev pub IsToWalk : ℕ → Stage → Type 0
IsToWalk k (Sends p) = ⊥
IsToWalk k (Owns (Some j) walked batch) = j ≡ k
IsToWalk k (Owns None walked []) = ⊥
IsToWalk k (Owns None walked (j ∷ js)) = j ≡ k

-- the owner walked k, or k waits in its batch
abbrev pub IsToTurn : ℕ → Stage → Type 0
IsToTurn k (Sends p) = ⊥
IsToTurn k (Owns cursor walked batch) = StandsIn walked batch k

-- the owner has walked all that it took, and k is the oldest number of its batch
abbrev pub IsToBegin : ℕ → Stage → Type 0
IsToBegin k (Sends p) = ⊥
IsToBegin k (Owns cursor walked []) = ⊥
IsToBegin k (Owns cursor walked (j ∷ js)) = (cursor ≡ None) × (j ≡ k)

-- the chair's part at this place makes the step and finds this word, and its other parts see it
pub record Steps (at : ℕ) (step : Step) (word : ℕ) (old new : Standing) : Type 0 where
  pub queue_is : new.queue ≡ old.queue
  pub moves : MakesAt at step word old.part old.others new.part new.others

-- each part of the chair was of the machine
pub record SeatedIn (m : Machine) (it : Standing) : Type 0 where
  pub fits : IsPartOf m it.part
  pub others_fit : AllOf m it.others
