-- Which rows of numbers are which events.
use Rattle.std.specs.Prelude.{◌≡◌, ℕ, List, [], ◌∷◌}
use Rattle.wq_words.specs.declared.event.Event.{Event}
use Rattle.wq_words.specs.declared.event.Event.TheVariants.{Hold, Busy, Push, Back, Take, Close, Drain, Resume, Begin, End, Chain, ChainBusy, Rest}
use Rattle.wq_words.specs.declared.event.Why.TheVariants as why
use Rattle.wq_check.specs.Checked.{CheckerState, IsAfter}
use Rattle.wq_rows.specs.declared.row.EventRow.{EventRow}

-- the row is of this kind, of a sender's event, and of an owner's event with a number
abbrev pub IsOfSender : EventRow → (kind sender number : ℕ) → Type 0
IsOfSender row kind sender number = (row.kind ≡ kind) × (row.sender ≡ sender) × (row.number ≡ number)

abbrev pub IsOfNumber : EventRow → (kind number : ℕ) → Type 0
IsOfNumber row kind number = (row.kind ≡ kind) × (row.number ≡ number)

-- the row is of this event
abbrev pub IsRowFor : EventRow → Event → Type 0
IsRowFor row (Hold s k) = IsOfSender row 1 s k
IsRowFor row (Busy s k) = IsOfSender row 2 s k
IsRowFor row (Push s k) = IsOfSender row 3 s k
IsRowFor row (Back s k why.Closed) = IsOfSender row 4 s k
IsRowFor row (Back s k why.Contended) = IsOfSender row 5 s k
IsRowFor row (Back s k why.Cancelled) = IsOfSender row 6 s k
IsRowFor row (Back s k why.Draining) = IsOfSender row 7 s k
IsRowFor row Take = row.kind ≡ 8
IsRowFor row Close = row.kind ≡ 9
IsRowFor row Drain = row.kind ≡ 10
IsRowFor row Resume = row.kind ≡ 11
IsRowFor row (Begin k) = IsOfNumber row 12 k
IsRowFor row (End k) = IsOfNumber row 13 k
IsRowFor row (Chain k) = IsOfNumber row 14 k
IsRowFor row (ChainBusy k) = IsOfNumber row 15 k
IsRowFor row Rest = row.kind ≡ 16

-- the row is of no event
abbrev pub IsNoEvent : EventRow → Type 0
IsNoEvent row = (e : Event) → ¬ IsRowFor row e

-- each row is of the event at its place, and there are as many
abbrev pub AreRowsOf : List EventRow → List Event → Type 0
AreRowsOf [] [] = Unit {0}
AreRowsOf [] (e ∷ h) = ⊥
AreRowsOf (row ∷ rows) [] = ⊥
AreRowsOf (row ∷ rows) (e ∷ h) = IsRowFor row e × AreRowsOf rows h

-- the checker was told just the events of these rows
pub record HasRead (rows : List EventRow) (c : CheckerState) : Type 0 where
  pub events : List Event
  pub are : AreRowsOf rows events
  pub after : IsAfter c events
