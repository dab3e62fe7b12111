-- Which turns a queue has the seats and the numbers for.
use Rattle.std.specs.Prelude.{ℕ, ◌<◌, List, All, Option, Some, None, IfSome}
use Rattle.std.specs.Coded.{×_prop, Π_prop, →_prop, Unit-prop, le_prop}
use Rattle.wq_words.specs.declared.layout.Layout.{Layout}
use Rattle.wq_words.specs.Numbers.{number_count}
use Rattle.wq_core.specs.declared.step.Seat.{Seat}
use Rattle.wq_core.specs.declared.step.Seat.TheVariants as seat
use Rattle.wq_core.specs.declared.step.Step.{Step}
use Rattle.wq_core.specs.declared.step.Step.TheVariants as step
use Rattle.wq_core.specs.Made.{IsPlaced, IsSeated, IsNumbered}
use Rattle.wq_text.specs.Turn.{Turn}
use mathlib.Core.Bool.{Bool-set}

abbrev pub PlacedIn : Layout → Turn → Type 0
PlacedIn layout turn = IsPlaced layout turn.0 turn.1

-- a turn is placed in one way at most, and so are all of a list
IsSeated-prop : (layout : Layout) (s : Seat) (st : Step) → IsProp (IsSeated layout s st)
IsSeated-prop layout (seat.Sender s) st = ×_prop le_prop (Bool-set _ _)
IsSeated-prop layout seat.Owner st = Bool-set _ _

IfBelow-prop : (n : ℕ) (next : Option ℕ) → IsProp (IfSome next (λ k. k < n))
IfBelow-prop n None = Unit-prop
IfBelow-prop n (Some k) = le_prop

IsNumbered-prop : (layout : Layout) (st : Step) → IsProp (IsNumbered layout st)
IsNumbered-prop layout (step.Hold k) = le_prop
IsNumbered-prop layout (step.Link k) = le_prop
IsNumbered-prop layout (step.Push k) = le_prop
IsNumbered-prop layout (step.Back k why) = le_prop
IsNumbered-prop layout (step.Check k) = le_prop
IsNumbered-prop layout (step.Chain k) = le_prop
IsNumbered-prop layout (step.Turn k next) = ×_prop le_prop (IfBelow-prop (number_count layout) next)
IsNumbered-prop layout _ = Unit-prop

pub All_PlacedIn-prop : (layout : Layout) (turns : List Turn) → IsProp (All (PlacedIn layout) turns)
All_PlacedIn-prop layout turns = Π_prop (λ k. Π_prop (λ d. →_prop (×_prop (IsSeated-prop layout _ _) (IsNumbered-prop layout _))))
