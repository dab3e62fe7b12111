-- Which steps the machine makes.
use Rattle.std.specs.Prelude.{◌≡◌, ◌<◌, Bool, true, false, IfSome}
use Rattle.wq_words.specs.declared.layout.Layout.{Layout}
use Rattle.wq_words.specs.Numbers.{number_count}
use Rattle.wq_core.specs.declared.step.Seat.{Seat}
use Rattle.wq_core.specs.declared.step.Seat.TheVariants.{Sender, Owner}
use Rattle.wq_core.specs.declared.step.Step.{Step}
use Rattle.wq_core.specs.declared.step.Step.TheVariants.{Hold, Look, Link, Push, Back, Check, Chain, Turn}
use Rattle.wq_core.specs.Machine.{Machine, IsEnabled}

-- the kinds of a sender's steps; all others are the owner's
abbrev pub is_senders : Step → Bool
is_senders (Hold k) = true
is_senders Look = true
is_senders (Link k) = true
is_senders (Push k) = true
is_senders (Back k why) = true
is_senders (Check k) = true
is_senders _ = false

-- the seat is one of the queue's, and the step one of its kinds
abbrev pub IsSeated : Layout → Seat → Step → Type 0
IsSeated layout (Sender s) step = (s < layout.senders) × (is_senders step ≡ true)
IsSeated layout Owner step = is_senders step ≡ false

-- the step's numbers are of the queue's, and one of its items where it is chained
abbrev pub IsNumbered : Layout → Step → Type 0
IsNumbered layout (Hold k) = k < number_count layout
IsNumbered layout (Link k) = k < number_count layout
IsNumbered layout (Push k) = k < number_count layout
IsNumbered layout (Back k why) = k < number_count layout
IsNumbered layout (Check k) = k < number_count layout
IsNumbered layout (Chain k) = k < layout.items
IsNumbered layout (Turn k next) = (k < number_count layout) × IfSome next (λ j. j < number_count layout)
IsNumbered layout _ = Unit {0}

abbrev pub IsPlaced : Layout → Seat → Step → Type 0
IsPlaced layout seat step = IsSeated layout seat step × IsNumbered layout step

-- the machine makes the step
abbrev pub IsMade : Machine → Seat → Step → Type 0
IsMade m seat step = IsPlaced m.layout seat step × IsEnabled m seat step
