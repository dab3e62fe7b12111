-- What the text of a history says when it is read as a recording: just that history.
use Rattle.std.specs.Prelude.{◌≡◌, ℕ, List, [], All, map, Some, None, Ok}
use Rattle.wq_words.specs.declared.event.Event.{Event}
use Rattle.wq_words.specs.declared.layout.Layout.{Layout}
use Rattle.wq_words.specs.Legal.{IsLegal}
use Rattle.wq_text.specs.declared.fault.ScriptError.{ScriptError}
use Rattle.wq_text.specs.declared.header.Awaited.TheVariants as awaited
use Rattle.wq_recording.specs.declared.finding.Finding.{Finding}
use Rattle.wq_recording.specs.Checking.{history_line, IsFoundOf, IsRefusedFor}
use Rattle.wq_recording.specs.History.{alone, IsEventOf}
use Rattle.wq_recording.specs.HistoryReport.{history_rules}
use Rattle.wq_recording.specs.HistoryText.{event_text, history_text}
use Rattle.wq_recording.specs.Verdict.{IsLineAt, IsLegalText}
use Rattle.wq_recording.specs.VerdictText.{verdict_of, SaysOf}

-- behind a header that names its layout, the line of an event tells this event and no other
abbrev pub TellsItsEvent : Type 0
TellsItsEvent =
    (layout : Layout) (e : Event) → IsEventOf layout e
    → history_line (awaited.Commands layout) (event_text layout e) ≡ Ok (awaited.Commands layout, Some (alone e))

-- all lines of the text are whole and without a fault; they name the layout and tell the events, one each, in order
abbrev pub TellsItsEvents : Type 0
TellsItsEvents =
    (layout : Layout) (h : List Event) → All (IsEventOf layout) h
    → (n : ℕ) × IsLineAt history_line (history_text layout h) n (awaited.Commands layout) (map alone h) [] []

-- where the events are legal, so is the text
abbrev pub IsLegalAsText : Type 0
IsLegalAsText = (layout : Layout) (h : List Event) → IsLegal layout h → IsLegalText history_line history_rules (history_text layout h) layout h

-- and what is found of it is just that, and it is never refused
abbrev pub IsFoundLegal : Type 0
IsFoundLegal =
    (layout : Layout) (h : List Event) (finding : Finding) → IsLegal layout h → IsFoundOf (history_text layout h) finding
    → SaysOf history_rules (verdict_of layout h None) finding

abbrev pub IsNeverRefused : Type 0
IsNeverRefused = (layout : Layout) (h : List Event) (e : ScriptError) → IsLegal layout h → ¬ IsRefusedFor (history_text layout h) e
