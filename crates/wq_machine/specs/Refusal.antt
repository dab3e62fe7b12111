-- Why the machine in memory makes no step.
use Rattle.std.specs.Prelude.{◌≡◌, ◌≢◌, ◌⊎◌, None}
use Rattle.wq_core.specs.declared.step.Seat.{Seat}
use Rattle.wq_core.specs.declared.step.Step.{Step}
use Rattle.wq_core.specs.declared.step.Step.TheVariants.{Walk}
use Rattle.wq_core.specs.Machine.{Machine, IsEnabled, after}
use Rattle.wq_core.specs.Made.{IsSeated, IsNumbered, IsPlaced, IsMade}
use Rattle.wq_machine.specs.declared.refusal.StepError.{StepError}
use Rattle.wq_machine.specs.declared.refusal.StepError.TheVariants.{NoSeat, NoItem, NotEnabled, Memory}

-- the step adds an event, or walks a number that is still to be walked; any other is made without memory
abbrev pub MayTakeMemory : Machine → Seat → Step → Type 0
MayTakeMemory m seat step = ((after m seat step).history ≢ m.history) ⊎ ((step ≡ Walk) × (m.cursor ≢ None))

-- why the step is not made, the first of these that fits
abbrev pub IsRefused : Machine → Seat → Step → StepError → Type 0
IsRefused m seat step NoSeat = ¬ IsSeated m.layout seat step
IsRefused m seat step NoItem = IsSeated m.layout seat step × (¬ IsNumbered m.layout step)
IsRefused m seat step NotEnabled = IsPlaced m.layout seat step × (¬ IsEnabled m seat step)
IsRefused m seat step Memory = IsMade m seat step × MayTakeMemory m seat step
