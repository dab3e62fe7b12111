-- What the parts of a chair see of the steps of the one at a place.
use Rattle.std.specs.Prelude.{◌≡◌, ◌⊎◌, ℕ, ◌<◌, List, ◌∷◌, Option}
use Rattle.wq_words.specs.History.{accepted}
use Rattle.wq_words.specs.Valued.{AreBrought}
use Rattle.wq_core.specs.Machine.{Machine}
use Rattle.wq_core.specs.Sound.{IsSound}
use Rattle.wq_table.specs.Plays.{all_see, AllOf}
use Rattle.wq_table.specs.Chair.{Standing, part_at, besides_at}
use Rattle.wq_table.specs.Slots.{AllKnow}
use Rattle.wq_table.specs.SlotSteps.{AllTold}
use Rattle.wq_table.specs.SlotChairs.{ValueStanding, standing_of}

-- The part at this place made steps. Each other part still was of the machine just after, has then seen all that had happened,
-- and keeps all else: for it that was a meeting.
pub record OthersFollow (at : ℕ) (old new : Standing) : Type 0 where
  pub machine : Machine
  pub sound : IsSound machine
  pub queue_is : new.queue ≡ old.queue
  pub seen_is : (part_at at new).seen ≡ machine.history
  pub fit : AllOf machine (besides_at at old)
  pub others_are : besides_at at new ≡ all_see machine.history (besides_at at old)

-- The part at this place made steps, and the others follow. All parts had been told a beginning of what is brought now, and have
-- then been told all of it.
pub record Learns {V : Type 0} (at : ℕ) (old new : ValueStanding V) : Type 0 where
  pub follow : OthersFollow at (standing_of old) (standing_of new)
  pub brought : List (Option V)
  pub know : AllKnow brought (old.first ∷ old.others)
  pub told : AllTold brought (new.first ∷ new.others)
  pub right : 0 < old.queue.slots → AreBrought (part_at at (standing_of new)).layout.items (accepted (part_at at (standing_of new)).seen) brought

-- it made steps, or none
abbrev pub LearnsOrStays : {V : Type 0} → ℕ → ValueStanding V → ValueStanding V → Type 0
LearnsOrStays at old new = (new ≡ old) ⊎ Learns at old new
