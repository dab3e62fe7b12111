-- What a check finds of rows.
use Rattle.std.specs.Prelude.{◌≡◌, ℕ, List, take, Some, slice_get, Result, Ok, Err}
use Rattle.wq_words.specs.declared.layout.Layout.{Layout}
use Rattle.wq_words.specs.declared.event.Event.{Event}
use Rattle.wq_words.specs.Limits.{AreInLimits, IsFirstOutOfLimits}
use Rattle.wq_words.specs.Legal.{IsLegal}
use Rattle.wq_check.specs.Causes.{HasEventError}
use Rattle.wq_rows.specs.declared.row.EventRow.{EventRow}
use Rattle.wq_rows.specs.declared.checking.RowError.{RowError}
use Rattle.wq_rows.specs.declared.checking.RowError.TheVariants as row_error
use Rattle.wq_rows.specs.declared.checking.RowsError.{RowsError}
use Rattle.wq_rows.specs.declared.checking.RowsError.TheVariants as error
use Rattle.wq_rows.specs.Rows.{IsRowFor, IsNoEvent, AreRowsOf}

-- why the row may not come after the events h
abbrev pub HasRowError : Layout → List Event → EventRow → RowError → Type 0
HasRowError layout h row row_error.NoEvent = IsNoEvent row
HasRowError layout h row (row_error.Event error) = (e : Event) × IsRowFor row e × HasEventError layout h e error

-- the rows are those of a legal history
pub record AreLegal (layout : Layout) (rows : List EventRow) : Type 0 where
  pub events : List Event
  pub are : AreRowsOf rows events
  pub legal : IsLegal layout events

-- the rows before the place are those of a legal history, and this is why the row there may not come after it
pub record IsFirstError (layout : Layout) (rows : List EventRow) (place : ℕ) (why : RowError) : Type 0 where
  pub before : AreLegal layout (take place rows)
  pub row : EventRow
  pub there : slice_get rows place ≡ Some row
  pub is : HasRowError layout before.events row why

-- what a check of these rows says: they are legal, or which is the first that may not come, and why
abbrev pub ChecksRows : Layout → List EventRow → Result (Unit {0}) RowsError → Type 0
ChecksRows layout rows (Ok _) = AreLegal layout rows
ChecksRows layout rows (Err (error.Row place why)) = IsFirstError layout rows place why
ChecksRows layout rows (Err _) = ⊥

-- there is a layout of this size, and this holds of it
abbrev pub OfSize : (items barriers senders : ℕ) → (Layout → Type 0) → Type 0
OfSize items barriers senders P =
    (layout : Layout) × ((layout.items ≡ items) × (layout.barriers ≡ barriers) × (layout.senders ≡ senders)) × P layout

-- the same for a queue of this size, and why it has none, or that memory was wanted
abbrev pub Checks : (items barriers senders : ℕ) → List EventRow → Result (Unit {0}) RowsError → Type 0
Checks items barriers senders rows (Err (error.Layout which)) = IsFirstOutOfLimits items barriers senders which
Checks items barriers senders rows (Err error.Memory) = AreInLimits items barriers senders
Checks items barriers senders rows said = OfSize items barriers senders (λ layout. ChecksRows layout rows said)
