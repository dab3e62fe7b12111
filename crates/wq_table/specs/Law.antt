-- What the rule of the table says of its words, and how its views are cut.
use Rattle.std.specs.Prelude.{◌≡◌, ◌≢◌, ◌⊎◌, ℕ, zero, suc, ◌+◌, ◌<◌, List, [], ◌∷◌, get_or, None}
use mathlib.Core.Option.{some}
use mathlib.Core.List.{IsPrefix}
use lib.ListN.{get_elem?}
use Rattle.atomic_table.specs.Table.{State}
use Rattle.wq_words.specs.declared.layout.Layout.{Layout}
use Rattle.wq_words.specs.declared.event.Event.{Event}
use Rattle.wq_core.specs.declared.step.Seat.{Seat}
use Rattle.wq_core.specs.declared.step.Seat.TheVariants.{Sender, Owner}
use Rattle.wq_core.specs.Words.{link_place}
use Rattle.wq_core.specs.Machine.{Machine, nothing_seen, private, link, StandsIn}
use Rattle.wq_core.specs.Sound.{IsSound}
use Rattle.wq_table.specs.declared.table.Part.{Part}
use Rattle.wq_table.specs.declared.table.Stage.{Stage}
use Rattle.wq_table.specs.declared.table.Stage.TheVariants.{Sends, Owns}
use Rattle.wq_words.specs.Seen.{owner_seat, own}

-- a view has one part for each seat that it speaks for
abbrev pub View : Type 0
View = List Part

abbrev pub part : ℕ → Layout → List Event → List ℕ → Stage → Part
part c layout seen words stage = record { seat = c; layout = layout; seen = seen; words = words; stage = stage }

-- the seat of the machine that the part is of
abbrev pub seat_at : ℕ → Stage → Seat
seat_at c (Sends p) = Sender c
seat_at c (Owns cursor walked batch) = Owner

-- the seat of the number c keeps this in private
abbrev pub HasStage : Machine → ℕ → Stage → Type 0
HasStage m c (Sends p) = (c < m.layout.senders) × (private m c ≡ p)
HasStage m c (Owns cursor walked batch) = (c ≡ owner_seat) × (m.cursor ≡ cursor) × (m.walked ≡ walked) × (m.batch ≡ batch)

-- each number that the owner walked or that waits in its batch has the link that it has in these words
abbrev pub HasLinks : Machine → List ℕ → Stage → Type 0
HasLinks m words (Sends p) = Unit {0}
HasLinks m words (Owns cursor walked batch) = (k : ℕ) → StandsIn walked batch k → link m k ≡ get_or words (link_place k) 0

-- The part is of a seat of the machine: what it has seen begins the history, with all the events of that seat. What the
-- owner took and has not begun is linked as its last step left it.
pub record IsPartOf (m : Machine) (p : Part) : Type 0 where
  pub layout_is : p.layout ≡ m.layout
  pub begins : IsPrefix p.seen m.history
  pub mine : own p.seat m.history ≡ own p.seat p.seen
  pub keeps : HasStage m p.seat p.stage
  pub links : HasLinks m p.words p.stage

-- none of the view's parts is of this seat
abbrev pub Apart : ℕ → View → Type 0
Apart c [] = Unit {0}
Apart c (q ∷ qs) = (q.seat ≢ c) × Apart c qs

-- each part fits and has its seat at the place i, and no seat has two
abbrev pub ArePartsAt : Machine → (ℕ → ℕ) → ℕ → View → Type 0
ArePartsAt m who i [] = Unit {0}
ArePartsAt m who i (p ∷ ps) = IsPartOf m p × (who p.seat ≡ i) × Apart p.seat ps × ArePartsAt m who i ps

-- a seat of a queue of this size: a sender's or the owner's
abbrev pub IsSeatOf : Layout → ℕ → Type 0
IsSeatOf layout c = (c < layout.senders) ⊎ (c ≡ owner_seat)

-- one of the view's parts is of this seat
abbrev pub HasPartOf : ℕ → View → Type 0
HasPartOf c [] = ⊥
HasPartOf c (p ∷ ps) = (p.seat ≡ c) ⊎ HasPartOf c ps

-- one of the view's parts has seen all of h
abbrev pub HasSeenAll : List Event → View → Type 0
HasSeenAll h [] = ⊥
HasSeenAll h (p ∷ ps) = (p.seen ≡ h) ⊎ HasSeenAll h ps

-- the view at the place i is so
abbrev pub StandsAt : List View → ℕ → (View → Type 0) → Type 0
StandsAt views i P = (v : View) × (get_elem? views i ≡ some v) × P v

-- Between any two steps: what exists is the machine with its history, and at which place the view of each seat stands. Each
-- seat of the queue stands there, and some seat has seen the whole history.
pub record Kept (layout : Layout) (s : State (Unit {0}) View) : Type 0 where
  pub machine : Machine
  pub who : ℕ → ℕ
  pub sound : IsSound machine
  pub layout_is : machine.layout ≡ layout
  pub words_are : s.words ≡ machine.words
  pub seats : (i : ℕ) (v : View) → get_elem? s.views i ≡ some v → ArePartsAt machine who i v
  pub present : (c : ℕ) → IsSeatOf layout c → StandsAt s.views (who c) (HasPartOf c)
  pub longest : (i : ℕ) × StandsAt s.views i (HasSeenAll machine.history)

abbrev pub sender_part : Layout → ℕ → Part
sender_part layout c = part c layout [] [] (Sends nothing_seen)

abbrev pub owner_part : Layout → Part
owner_part layout = part owner_seat layout [] [] (Owns None [] [])

-- the senders c, c + 1 .. of m, and the owner
abbrev pub row : Layout → ℕ → ℕ → View
row layout c zero = owner_part layout ∷ []
row layout c (suc m) = sender_part layout c ∷ row layout (c + 1) m

abbrev pub opening_view : Layout → View
opening_view layout = row layout 0 layout.senders
