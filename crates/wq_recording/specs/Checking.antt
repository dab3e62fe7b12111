-- What is said of the bytes of a recording of either kind.
use Rattle.std.specs.Prelude.{◌≡◌, ℕ, ◌+◌, ◌-◌, Bool, false, List, [], ◌∷◌, drop, Option, Some, None, codes, MatchBool, if◌then◌else◌}
use Rattle.std.specs.Str.{bytes_eq}
use Rattle.wq_check.specs.declared.mark.Mark.{Mark}
use Rattle.wq_text.specs.declared.fault.ScriptError.{ScriptError}
use Rattle.wq_text.specs.Line.{Lines}
use Rattle.wq_text.specs.Word.{parts}
use Rattle.wq_recording.specs.declared.line_events.LineEvents.{LineEvents}
use Rattle.wq_recording.specs.declared.finding.Finding.{Finding}
use Rattle.wq_recording.specs.History.{history_grammar}
use Rattle.wq_recording.specs.HistoryReport.{history_rules}
use Rattle.wq_recording.specs.Lines.{most_line_bytes}
use Rattle.wq_recording.specs.declared.violation.Violation.{Violation}
use Rattle.wq_recording.specs.Trace.{trace_grammar}
use Rattle.wq_recording.specs.TraceReport.{trace_rules}
use Rattle.wq_recording.specs.Verdict.{is_short, recording_line, IsRefusedText}
use Rattle.wq_recording.specs.VerdictText.{Finds}

-- a line of a history, and one of a trace
abbrev pub history_line : Lines LineEvents
history_line = recording_line history_grammar

abbrev pub trace_line : Lines Mark
trace_line = recording_line trace_grammar

-- the first line is whole and that of a trace; every other text is read as a history
abbrev pub begins_as_trace : List (List ℕ) → Bool
begins_as_trace (line ∷ next ∷ more) = bytes_eq line (codes "trace 1")
begins_as_trace _ = false

abbrev pub is_trace : List ℕ → Bool
is_trace text = begins_as_trace (parts text)

-- what was found is what is said of the text, by its own rules
abbrev pub IsFoundOf : List ℕ → Finding → Type 0
IsFoundOf text finding =
    MatchBool (is_trace text) (Finds trace_line trace_rules text finding) (Finds history_line history_rules text finding)

-- the text is refused, by its own rules
abbrev pub IsRefusedFor : List ℕ → ScriptError → Type 0
IsRefusedFor text e = MatchBool (is_trace text) (IsRefusedText trace_line trace_rules text e) (IsRefusedText history_line history_rules text e)

-- the text was read to its end or, where there is a violation, through its line and no further
abbrev pub IsReadThrough : Option Violation → List ℕ → List ℕ → Type 0
IsReadThrough None text left = left ≡ []
IsReadThrough (Some violation) text left = parts left ≡ drop violation.line (parts text)

-- what is left of a line and the parts behind it once the line was read: those parts, where its LF is among its first 4,097 bytes,
-- and else all that stands behind these bytes
abbrev pub unread : List (List ℕ) → List (List ℕ)
unread (line ∷ next ∷ more) = if is_short line then next ∷ more else drop (most_line_bytes + 1) line ∷ next ∷ more
unread (rest ∷ []) = drop (most_line_bytes + 1) rest ∷ []
unread [] = []

-- the text was read through the line that is refused and no further, and of a line that is too long 4,097 bytes
abbrev pub IsReadToFault : ScriptError → List ℕ → List ℕ → Type 0
IsReadToFault e text left = parts left ≡ unread (drop (e.line - 1) (parts text))
