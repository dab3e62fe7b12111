-- How a history is written as a recording: the lines of the header, and a line for each event.
use Rattle.std.specs.Prelude.{◌≡◌, ℕ, List, ◌++◌, flat_map, codes}
use Rattle.std.specs.Fmt.{decimal}
use Rattle.wq_words.specs.declared.event.Event.{Event}
use Rattle.wq_words.specs.declared.event.Event.TheVariants as event
use Rattle.wq_words.specs.declared.layout.Layout.{Layout}
use Rattle.wq_words.specs.Legal.{IsLegal}
use Rattle.wq_text.specs.Turn.{Turn}
use Rattle.wq_meaning.specs.Names.{named}
use Rattle.wq_meaning.specs.Replies.{why_text}
use Rattle.wq_meaning.specs.Report.{line, count_line}
use Rattle.wq_meaning.specs.ScheduleHistory.{IsScheduleHistory}

-- the words of a sender's line: the sender, what it does, and a number
abbrev pub sender_text : Layout → ℕ → List ℕ → ℕ → List ℕ
sender_text layout s word k = decimal s ++ word ++ named layout k

abbrev pub event_text : Layout → Event → List ℕ
event_text layout (event.Hold s k) = sender_text layout s (codes " hold") k
event_text layout (event.Busy s k) = sender_text layout s (codes " busy") k
event_text layout (event.Push s k) = sender_text layout s (codes " push") k
event_text layout (event.Back s k why) = sender_text layout s (codes " back") k ++ why_text why
event_text layout event.Take = codes "o take"
event_text layout event.Close = codes "o close"
event_text layout event.Drain = codes "o drain"
event_text layout event.Resume = codes "o resume"
event_text layout (event.Begin k) = codes "o begin" ++ named layout k
event_text layout (event.End k) = codes "o end" ++ named layout k
event_text layout (event.Chain k) = codes "o chain" ++ named layout k
event_text layout (event.ChainBusy k) = codes "o busy" ++ named layout k
event_text layout event.Rest = codes "o rest"

abbrev pub header_text : Layout → List ℕ
header_text layout =
    line (codes "history 1") ++ count_line (codes "items") layout.items ++ count_line (codes "senders") layout.senders
    ++ count_line (codes "barriers") layout.barriers

abbrev pub event_lines : Layout → List Event → List ℕ
event_lines layout h = flat_map (λ (e : Event). line (event_text layout e)) h

abbrev pub history_text : Layout → List Event → List ℕ
history_text layout h = header_text layout ++ event_lines layout h

-- the text is that of the history that the turns of a schedule make, which is legal
pub record IsRecordingOf (layout : Layout) (turns : List Turn) (text : List ℕ) : Type 0 where
  pub history : List Event
  pub made : IsScheduleHistory layout turns history
  pub legal : IsLegal layout history
  pub text_is : text ≡ history_text layout history
