-- The language of histories: which events the words of a line tell.
use Rattle.std.specs.Prelude.{ℕ, true, List, ◌∷◌, length, Option, Some, None, IfSome, Result, ◌-◌, ◌==◌, if◌then◌else◌, codes, option_map}
use Rattle.std.specs.Option.{option_to_list}
use Rattle.std.specs.Str.{bytes_eq}
use Rattle.wq_words.specs.declared.event.Why.TheVariants as why
use Rattle.wq_words.specs.declared.event.Event.{Event}
use Rattle.wq_words.specs.declared.event.Event.TheVariants as event
use Rattle.wq_words.specs.declared.layout.Layout.{Layout}
use Rattle.wq_words.specs.Legal.{HasSeat, HasNumber}
use Rattle.wq_words.specs.Limits.{most_items, most_senders}
use Rattle.wq_text.specs.declared.fault.FaultKind.{FaultKind}
use Rattle.wq_text.specs.Arguments.{item, no_word, one}
use Rattle.wq_text.specs.Fault.{of_none, of_one, of_two}
use Rattle.wq_text.specs.Line.{Grammar}
use Rattle.wq_text.specs.Turn.{number_of_queue, seat_and_number, why_at, nth_word, without_last}
use Rattle.wq_text.specs.Word.{without_first}
use Rattle.wq_recording.specs.declared.line_events.LineEvents.{LineEvents}
use Rattle.wq_recording.specs.declared.history_words.HistoryWord.{HistoryWord}
use Rattle.wq_recording.specs.declared.history_words.HistoryWord.TheVariants as history_word

-- the events of a line, in order
abbrev pub events_of_line : LineEvents → List Event
events_of_line e = e.first ∷ option_to_list e.second

abbrev pub alone : Event → LineEvents
alone e = record { first = e; second = None }

abbrev pub both : Event → Event → LineEvents
both e f = record { first = e; second = Some f }

-- the queue has the seats and the numbers of the events of a line
abbrev pub IsEventOf : Layout → Event → Type 0
IsEventOf layout e = HasSeat layout e × HasNumber layout e

abbrev pub IsOf : Layout → LineEvents → Type 0
IsOf layout e = IsEventOf layout e.first × IfSome e.second (IsEventOf layout)

-- what the owner's second word tells, and what a sender's does
unfoldable pub owners_word : List ℕ → Option HistoryWord
owners_word w =
    if bytes_eq w (codes "take") then Some history_word.Take
    else if bytes_eq w (codes "close") then Some history_word.Close
    else if bytes_eq w (codes "drain") then Some history_word.Drain
    else if bytes_eq w (codes "resume") then Some history_word.Resume
    else if bytes_eq w (codes "begin") then Some history_word.Begin
    else if bytes_eq w (codes "end") then Some history_word.End
    else if bytes_eq w (codes "chain") then Some history_word.Chain
    else if bytes_eq w (codes "busy") then Some history_word.ChainBusy
    else if bytes_eq w (codes "rest") then Some history_word.Rest
    else None

unfoldable pub senders_word : List ℕ → List ℕ → Option HistoryWord
senders_word w last =
    if bytes_eq w (codes "hold") then Some history_word.Hold
    else if bytes_eq w (codes "busy") then Some history_word.Busy
    else if bytes_eq w (codes "push") then Some history_word.Push
    else if bytes_eq w (codes "back") then option_map history_word.Back (why_at last)
    else if bytes_eq w (codes "queue") then Some history_word.Queue
    else if bytes_eq w (codes "refused") then Some history_word.Refused
    else None

-- what the first word and the others tell: of the owner behind o, of a sender behind any other word
abbrev pub history_word_at : List ℕ → List (List ℕ) → Option HistoryWord
history_word_at w ws =
    if length ws == 0 then None
    else if bytes_eq w (codes "o") then owners_word (nth_word 0 ws)
    else senders_word (nth_word 0 ws) (nth_word (length ws - 1) ws)

-- the seat and the number that the words of a line give, 0 where it has none
unfoldable pub numbers_give : Layout → HistoryWord → List ℕ → List (List ℕ) → Result (ℕ × ℕ) FaultKind
numbers_give l history_word.Hold w ws = seat_and_number l w ws
numbers_give l history_word.Busy w ws = seat_and_number l w ws
numbers_give l history_word.Push w ws = seat_and_number l w ws
numbers_give l (history_word.Back cause) w ws = seat_and_number l w (without_last ws)
numbers_give l history_word.Queue w ws = seat_and_number l w ws
numbers_give l history_word.Refused w ws = seat_and_number l w ws
numbers_give l history_word.Take w ws = of_none (0, 0) (no_word ws)
numbers_give l history_word.Close w ws = of_none (0, 0) (no_word ws)
numbers_give l history_word.Drain w ws = of_none (0, 0) (no_word ws)
numbers_give l history_word.Resume w ws = of_none (0, 0) (no_word ws)
numbers_give l history_word.Begin w ws = of_one (λ k. (0, k)) (one (number_of_queue l) ws)
numbers_give l history_word.End w ws = of_one (λ k. (0, k)) (one (number_of_queue l) ws)
numbers_give l history_word.Chain w ws = of_one (λ k. (0, k)) (one (item l) ws)
numbers_give l history_word.ChainBusy w ws = of_one (λ k. (0, k)) (one (item l) ws)
numbers_give l history_word.Rest w ws = of_none (0, 0) (no_word ws)

-- the events that are told of a seat and a number
unfoldable pub line_events_of : HistoryWord → ℕ → ℕ → LineEvents
line_events_of history_word.Hold s k = alone (event.Hold s k)
line_events_of history_word.Busy s k = alone (event.Busy s k)
line_events_of history_word.Push s k = alone (event.Push s k)
line_events_of (history_word.Back cause) s k = alone (event.Back s k cause)
line_events_of history_word.Queue s k = both (event.Hold s k) (event.Push s k)
line_events_of history_word.Refused s k = both (event.Hold s k) (event.Back s k why.Closed)
line_events_of history_word.Take s k = alone event.Take
line_events_of history_word.Close s k = alone event.Close
line_events_of history_word.Drain s k = alone event.Drain
line_events_of history_word.Resume s k = alone event.Resume
line_events_of history_word.Begin s k = alone (event.Begin k)
line_events_of history_word.End s k = alone (event.End k)
line_events_of history_word.Chain s k = alone (event.Chain k)
line_events_of history_word.ChainBusy s k = alone (event.ChainBusy k)
line_events_of history_word.Rest s k = alone event.Rest

-- the table of histories, by the first word and the words behind the second
abbrev pub events_given : Layout → HistoryWord → List ℕ → List (List ℕ) → Result LineEvents FaultKind
events_given l t w ws = of_two (line_events_of t) (numbers_give l t w ws)

abbrev pub history_grammar : Grammar HistoryWord LineEvents
history_grammar = record {
  version = codes "history 1";
  names_seats = true;
  most = record { items = most_items; senders = most_senders };
  names = history_word_at;
  asks = λ l t w ws. events_given l t w (without_first ws);
}
