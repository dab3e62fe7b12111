-- What a schedule's output is: a line for each of its steps, by the machine that it meets, and at the end what was
-- accepted and what has begun.
use Rattle.std.specs.Prelude.{◌≡◌, ◌⊎◌, ℕ, List, [], ◌∷◌, ◌++◌, codes}
use Rattle.wq_words.specs.declared.layout.Layout.{Layout}
use Rattle.wq_words.specs.History.{accepted, begun}
use Rattle.wq_core.specs.Machine.{Machine, opening, IsEnabled, after, reply_to}
use Rattle.wq_text.specs.Turn.{Turn}
use Rattle.wq_meaning.specs.Names.{row_text}
use Rattle.wq_meaning.specs.Replies.{made_text}
use Rattle.wq_meaning.specs.Report.{line}

-- what becomes of a turn: a step that is enabled is made and its reply written, any other changes nothing and is said so
abbrev pub IsMadeAndWritten : Machine → Turn → Machine → List ℕ → Type 0
IsMadeAndWritten m turn n text =
    IsEnabled m turn.0 turn.1 × (n ≡ after m turn.0 turn.1) × (text ≡ line (made_text m.layout turn.1 (reply_to m turn.0 turn.1)))

abbrev pub IsPassedOver : Machine → Turn → Machine → List ℕ → Type 0
IsPassedOver m turn n text = (¬ IsEnabled m turn.0 turn.1) × (n ≡ m) × (text ≡ line (codes "not enabled"))

abbrev pub Gives : Machine → Turn → Machine → List ℕ → Type 0
Gives m turn n text = IsMadeAndWritten m turn n text ⊎ IsPassedOver m turn n text

-- the turns, one after another, lead from machine m to machine n and give this text
abbrev pub AllGive : Machine → List Turn → Machine → List ℕ → Type 0
AllGive m [] n text = (n ≡ m) × (text ≡ [])
AllGive m (turn ∷ turns) n text =
    (next : Machine) × (first : List ℕ) × (rest : List ℕ) × Gives m turn next first × AllGive next turns n rest × (text ≡ first ++ rest)

-- the last two lines
abbrev pub ending : Machine → List ℕ
ending m = row_text m.layout (codes "accepted") (accepted m.history) ++ row_text m.layout (codes "begun") (begun m.history)

pub record IsScheduleOutput (layout : Layout) (turns : List Turn) (text : List ℕ) : Type 0 where
  pub machine : Machine
  pub lines : List ℕ
  pub given : AllGive (opening layout) turns machine lines
  pub whole : text ≡ lines ++ ending machine

-- a schedule has one output at most
abbrev pub HasOneOutput : Type 0
HasOneOutput = (layout : Layout) (turns : List Turn) (text other : List ℕ) → IsScheduleOutput layout turns text
    → IsScheduleOutput layout turns other → text ≡ other

-- a turn's text was written behind what was there before
abbrev pub GivesBehind : Machine → Turn → Machine → List ℕ → List ℕ → Type 0
GivesBehind m turn n before now = (text : List ℕ) × Gives m turn n text × (now ≡ before ++ text)
