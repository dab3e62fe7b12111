-- What a check finds, as a number.
use Rattle.std.specs.Prelude.{◌≡◌, ℕ, List, Result, Ok, Err}
use Rattle.wq_words.specs.declared.layout.LayoutError.{LayoutError}
use Rattle.wq_words.specs.declared.layout.LayoutError.TheVariants as layout
use Rattle.wq_check.specs.declared.cause.Cause.{Cause}
use Rattle.wq_check.specs.declared.cause.Cause.TheVariants as cause
use Rattle.wq_check.specs.declared.cause.EventError.{EventError}
use Rattle.wq_check.specs.declared.cause.EventError.TheVariants as event_error
use Rattle.wq_rows.specs.declared.row.EventRow.{EventRow}
use Rattle.wq_rows.specs.declared.checking.RowError.{RowError}
use Rattle.wq_rows.specs.declared.checking.RowError.TheVariants as row_error
use Rattle.wq_rows.specs.declared.checking.RowsError.{RowsError}
use Rattle.wq_rows.specs.declared.checking.RowsError.TheVariants as error
use Rattle.wq_rows.specs.Found.{Checks}

abbrev pub cause_code : Cause → ℕ
cause_code cause.Pending = 99
cause_code cause.Idle = 100
cause_code cause.NotHeld = 101
cause_code cause.Closed = 102
cause_code cause.Draining = 103
cause_code cause.NotDraining = 104
cause_code cause.NeverDrained = 105
cause_code cause.Open = 106
cause_code (cause.Runs k) = 107
cause_code cause.NothingRuns = 108
cause_code cause.NotWaiting = 109
cause_code (cause.Next k) = 110
cause_code cause.NotEnded = 111

abbrev pub event_code : EventError → ℕ
event_code event_error.NoSeat = 97
event_code event_error.NoItem = 98
event_code (event_error.NotAllowed cause) = cause_code cause

abbrev pub row_code : RowError → ℕ
row_code row_error.NoEvent = 96
row_code (row_error.Event error) = event_code error

-- 80 to 83 are what a call of a seat answers for the same (`error_code` of `wq_seats`), since C has one name for each
abbrev pub layout_code : LayoutError → ℕ
layout_code layout.Items = 81
layout_code layout.Barriers = 82
layout_code layout.Senders = 83

abbrev pub check_code : Result (Unit {0}) RowsError → ℕ
check_code (Ok _) = 0
check_code (Err error.Memory) = 80
check_code (Err (error.Layout which)) = layout_code which
check_code (Err (error.Row place why)) = row_code why

-- the place of the row that may not come, or what stood there before
abbrev pub place_after : ℕ → Result (Unit {0}) RowsError → ℕ
place_after before (Err (error.Row place why)) = place
place_after before _ = before

-- the code is that of some answer of a check, and the place is that of its row
pub record SaidHistory (items barriers senders : ℕ) (rows : List EventRow) (code before place : ℕ) : Type 0 where
  pub said : Result (Unit {0}) RowsError
  pub code_is : code ≡ check_code said
  pub place_is : place ≡ place_after before said
  pub found : Checks items barriers senders rows said
