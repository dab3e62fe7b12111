-- What each step tells its seat of what was brought, and of the slots in its hand.
use Rattle.std.specs.Prelude.{◌≡◌, ℕ, ◌<◌, ◌≤◌, ◌==◌, if◌then◌else◌, List, [], ◌∷◌, ◌++◌, map, length, slice_get, Option, Some, None, MatchBool}
use mathlib.Core.List.{IsPrefix}
use Rattle.atomic_table.specs.Table.{Me, Step as TableStep, Act, Valid, homes_after, carried_after, rest}
use Rattle.wq_words.specs.declared.layout.Layout.{Layout}
use Rattle.wq_words.specs.History.{accepted, begun}
use Rattle.wq_words.specs.Valued.{Carries, AreBrought}
use Rattle.wq_core.specs.declared.step.Step.{Step}
use Rattle.wq_core.specs.declared.step.Step.TheVariants.{Hold, Push, Back, Walk, Begin, Chain}
use Rattle.wq_core.specs.Machine.{Machine, seen_word, after}
use Rattle.wq_core.specs.Sound.{IsSound}
use Rattle.wq_table.specs.declared.table.Part.{Part}
use Rattle.wq_table.specs.declared.table.Stage.{Stage}
use Rattle.wq_table.specs.declared.table.Stage.TheVariants.{Sends, Owns}
use Rattle.wq_table.specs.Law.{seat_at, IsPartOf}
use Rattle.wq_table.specs.Plays.{Kind, word_found, all_see, AllOf}
use Rattle.wq_table.specs.Places.{chosen, ViewMakes}
use Rattle.wq_table.specs.Slots.{Slots, Shelves, ValueView, plain_view, AllKnow, telling}

-- the slots that a seat has taken, the last one first, each with what lies in it
abbrev pub Hand : Type 0 → Type 0
Hand V = List (ℕ × Option V)

abbrev pub ValueSat : Type 0 → Type 0
ValueSat V = Me (Option V) (ValueView V)

-- what lies in the slot that was taken last
abbrev pub in_front : {V : Type 0} → Hand V → Option V
in_front [] = None
in_front (x ∷ xs) = x.1

-- k was brought y, at a place that has not begun
pub record IsBrought {V : Type 0} (items b : ℕ) (acs : List ℕ) (brs : List (Option V)) (k : ℕ) (y : Option V) : Type 0 where
  pub place : ℕ
  pub later : b ≤ place
  pub stands : slice_get acs place ≡ Some k
  pub has : slice_get brs place ≡ Some y
  pub kind : Carries items k y

-- the slot of the number that the owner walks comes to hand, with what the number brought; no slot where all is walked
abbrev pub Walks : {V : Type 0} → Stage → Machine → List (Option V) → Hand V → List (Option V) → Hand V → Type 0
Walks (Sends private) m b c b' c' = ⊥
Walks {V} (Owns (Some k) walked batch) m b c b' c' =
    (b' ≡ b) × (y : Option V) × (c' ≡ (k, y) ∷ c) × IsBrought m.layout.items (length (begun m.history)) (accepted m.history) b k y
Walks (Owns None walked batch) m b c b' c' = (b' ≡ b) × (c' ≡ c)

-- Which slot moves at a step of the seat p of the machine m, where this word was found: of what was brought and of the hand
-- before, and both afterwards. A chained item is brought what is said.
abbrev pub MovesSlot : {V : Type 0} → Option V → Step → Part → Machine → ℕ → List (Option V) → Hand V → List (Option V) → Hand V → Type 0
MovesSlot said (Hold k) p m word b c b' c' = (b' ≡ b) × (c' ≡ (if word == 0 then (k, None) ∷ c else c))
MovesSlot said (Push k) p m word b c b' c' =
    MatchBool (word == seen_word m p.seat) ((b' ≡ b ++ in_front c ∷ []) × (c' ≡ rest c)) ((b' ≡ b) × (c' ≡ c))
MovesSlot said (Back k why) p m word b c b' c' = (b' ≡ b) × (c' ≡ rest c)
MovesSlot said Walk p m word b c b' c' = Walks p.stage m b c b' c'
MovesSlot said Begin p m word b c b' c' = (b' ≡ b) × (c' ≡ rest c)
MovesSlot said (Chain k) p m word b c b' c' = MatchBool (word == 0) ((b' ≡ b ++ said ∷ []) × (c' ≡ (k, None) ∷ c)) ((b' ≡ b) × (c' ≡ c))
MovesSlot said _ p m word b c b' c' = (b' ≡ b) × (c' ≡ c)

-- from m to n: what the seat p does with its hand, and what is brought then
pub record Goes {V : Type 0} (said : Option V) (step : Step) (m n : Machine) (p : Part) (word : ℕ) (brs : List (Option V)) (homes : Slots V)
    (c : Hand V) : Type 0 where
  pub act : Act (Option V)
  pub valid : Valid homes c act
  pub brs' : List (Option V)
  pub more : IsPrefix brs brs'
  pub shelves : Shelves n brs' (homes_after homes c act)
  pub moved : 0 < length homes → MovesSlot said step p m word brs c brs' (carried_after c act)
  pub hand_same : length homes ≡ 0 → carried_after c act ≡ c

-- whatever machine the part is of
abbrev pub GoesBy : {V : Type 0} → ℕ → Part → Option V → Step → Hand V → Type 0
GoesBy {V} slots p said step c = (m : Machine) (brs : List (Option V)) (homes : Slots V) → IsSound m → IsPartOf m p → length homes ≡ slots
    → Shelves m brs homes
    → Goes said step m (after m (seat_at p.seat p.stage) step) p (word_found m p.seat step) brs homes c

-- each part was told that just these were brought, one for each accepted number that it has seen
abbrev pub AllTold : {V : Type 0} → List (Option V) → ValueView V → Type 0
AllTold brs [] = Unit {0}
AllTold brs (t ∷ ts) = (t.brought ≡ brs) × (length brs ≡ length (accepted t.part.seen)) × AllTold brs ts

-- The step is made by the part at this place of a view. Just before it had been brought what `brought` says, and now all parts
-- know what was brought since.
pub record ValueMakes {V : Type 0} (slots at : ℕ) (said : Option V) (step : Layout → Step) (me : ValueSat V) (word : ℕ) (me' : ValueSat V) : Type 0 where
  pub plain : ViewMakes at step (plain_view me.0) word (plain_view me'.0)
  pub brought : List (Option V)
  pub know : AllKnow brought me.0
  pub as_many : length brought ≡ length (accepted plain.moves.makes.before.history)
  pub brought' : List (Option V)
  pub more : IsPrefix brought brought'
  pub told : AllTold brought' me'.0
  -- where there are slots each item brought a value, and one slot may move, else the hand stays
  pub right : 0 < slots → AreBrought (chosen at plain.part' plain.others').layout.items (accepted (chosen at plain.part' plain.others').seen) brought'
  pub moves : 0 < slots → MovesSlot said (step (chosen at plain.part plain.others).layout) (chosen at plain.part plain.others) plain.moves.makes.before word
      brought me.1 brought' me'.1
  pub hand_same : slots ≡ 0 → me'.1 ≡ me.1

abbrev pub Telling : Type 0 → Type 1
Telling V = TableStep (Option V) → ValueSat V → ℕ → ValueSat V → Type 0

abbrev pub tells_values : {V : Type 0} → ℕ → Option V → Kind → Telling V
tells_values at said kind s = ValueMakes s.slots at said (kind s.word s.second)

-- a store has its new word elsewhere
abbrev pub stores_values : {V : Type 0} → ℕ → Kind → Telling V
stores_values at kind s = ValueMakes s.slots at None (kind s.word s.first)

-- the seats of a view see all that has happened, and know all that was brought
pub record ValuesSeen {V : Type 0} (slots : ℕ) (me me' : ValueSat V) : Type 0 where
  pub machine : Machine
  pub sound : IsSound machine
  pub all : AllOf machine (plain_view me.0)
  pub brought : List (Option V)
  pub as_many : length brought ≡ length (accepted machine.history)
  pub right : 0 < slots → AreBrought machine.layout.items (accepted machine.history) brought
  pub know : AllKnow brought me.0
  pub is : me'.0 ≡ map (telling brought) (all_see machine.history (plain_view me.0))
  pub hand : me'.1 ≡ me.1

abbrev pub meets_values : {V : Type 0} → Telling V
meets_values s me word me' = ValuesSeen s.slots me me'
