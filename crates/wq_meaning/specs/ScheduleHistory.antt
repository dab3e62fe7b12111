-- The history that a schedule's steps make: that of the machine to which its turns lead.
use Rattle.std.specs.Prelude.{◌≡◌, ◌⊎◌, List, [], ◌∷◌}
use Rattle.wq_words.specs.declared.event.Event.{Event}
use Rattle.wq_words.specs.declared.layout.Layout.{Layout}
use Rattle.wq_core.specs.Machine.{Machine, opening, IsEnabled, after}
use Rattle.wq_text.specs.Turn.{Turn}

-- what becomes of a turn: a step that is enabled is made, any other changes nothing
abbrev pub Passes : Machine → Turn → Machine → Type 0
Passes m turn n = (IsEnabled m turn.0 turn.1 × (n ≡ after m turn.0 turn.1)) ⊎ ((¬ IsEnabled m turn.0 turn.1) × (n ≡ m))

-- the turns, one after another, lead from machine m to machine n
abbrev pub AllPass : Machine → List Turn → Machine → Type 0
AllPass m [] n = n ≡ m
AllPass m (turn ∷ turns) n = (next : Machine) × Passes m turn next × AllPass next turns n

pub record IsScheduleHistory (layout : Layout) (turns : List Turn) (h : List Event) : Type 0 where
  pub machine : Machine
  pub passed : AllPass (opening layout) turns machine
  pub history_is : h ≡ machine.history
