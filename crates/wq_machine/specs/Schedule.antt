-- Schedules: who makes which step, one after another.
use Rattle.std.specs.Prelude.{◌≡◌, ℕ, List, [], ◌∷◌, take, slice_get, Some}
use Rattle.wq_words.specs.declared.layout.Layout.{Layout}
use Rattle.wq_core.specs.declared.step.Seat.{Seat}
use Rattle.wq_core.specs.declared.step.Step.{Step}
use Rattle.wq_machine.specs.declared.refusal.StepError.{StepError}
use Rattle.wq_machine.specs.declared.refusal.StepError.TheVariants.{Memory}
use Rattle.wq_core.specs.Machine.{Machine, opening, after}
use Rattle.wq_core.specs.Made.{IsMade}
use Rattle.wq_machine.specs.Refusal.{IsRefused}

-- the steps, each of which is made, lead from old to new
abbrev pub Leads : Machine → List (Seat × Step) → Machine → Type 0
Leads old [] new = new ≡ old
Leads old (turn ∷ turns) new = IsMade old turn.0 turn.1 × Leads (after old turn.0 turn.1) turns new

-- the schedule leaves this machine, and none of its steps is refused
abbrev pub Leaves : Layout → List (Seat × Step) → Machine → Type 0
Leaves layout turns m = Leads (opening layout) turns m

-- all steps before this place are made and lead from old to new, and the step there is the first that is refused, for this cause
abbrev pub StopsAt : Machine → List (Seat × Step) → Machine → ℕ → StepError → Type 0
StopsAt old turns new at why =
    Leads old (take at turns) new × (seat : Seat) × (step : Step) × (slice_get turns at ≡ Some (seat, step)) × IsRefused new seat step why

-- the first step of the schedule that is refused, from the opening
abbrev pub IsFirstRefusal : Layout → List (Seat × Step) → ℕ → StepError → Type 0
IsFirstRefusal layout turns at why = (m : Machine) × StopsAt (opening layout) turns m at why

-- no memory could be had for the opening state
abbrev pub LacksOpening : ℕ → StepError → Type 0
LacksOpening at why = (at ≡ 0) × (why ≡ Memory)
