-- What the program makes of a schedule's text.
use Rattle.std.specs.Prelude.{ℕ, List}
use Rattle.wq_text.specs.declared.fault.ScriptError.{ScriptError}
use Rattle.wq_text.specs.declared.schedule.Schedule.{Schedule}
use Rattle.wq_text.specs.Schedule.{schedule_layout, turns_of}
use Rattle.wq_text.specs.Text.{Spells, IsRefusal}
use Rattle.wq_text.specs.Turn.{schedule_lines}
use Rattle.wq_meaning.specs.ScheduleOutput.{IsScheduleOutput}
use Rattle.wq_recording.specs.HistoryText.{IsRecordingOf}

-- the text spells a schedule, and these are the bytes of its output
pub record Replays (text output : List ℕ) : Type 0 where
  pub schedule : Schedule
  pub spells : Spells (schedule_lines text) text (schedule_layout schedule) (turns_of schedule)
  pub output_is : IsScheduleOutput (schedule_layout schedule) (turns_of schedule) output

-- the text spells a schedule, and these are the bytes of the history that its steps make
pub record Records (text recording : List ℕ) : Type 0 where
  pub schedule : Schedule
  pub spells : Spells (schedule_lines text) text (schedule_layout schedule) (turns_of schedule)
  pub recording_is : IsRecordingOf (schedule_layout schedule) (turns_of schedule) recording

-- the text has no output, since it is refused for this
abbrev pub HasNoOutput : List ℕ → ScriptError → Type 0
HasNoOutput text refusal = IsRefusal (schedule_lines text) text refusal
