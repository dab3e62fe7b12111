-- The language of traces: which mark the words of a line show.
use Rattle.std.specs.Prelude.{ℕ, ◌<◌, false, List, Option, Some, None, Result, if◌then◌else◌, codes}
use Rattle.std.specs.Str.{bytes_eq}
use Rattle.wq_words.specs.declared.layout.Layout.{Layout}
use Rattle.wq_words.specs.Limits.{most_items}
use Rattle.wq_check.specs.declared.mark.Mark.{Mark}
use Rattle.wq_check.specs.declared.mark.Mark.TheVariants as mark
use Rattle.wq_check.specs.Trace.{number_of}
use Rattle.wq_text.specs.declared.fault.FaultKind.{FaultKind}
use Rattle.wq_text.specs.Arguments.{item, one}
use Rattle.wq_text.specs.Fault.{of_one}
use Rattle.wq_text.specs.Line.{Grammar}
use Rattle.wq_recording.specs.declared.trace.Sight.{Sight}
use Rattle.wq_recording.specs.declared.trace.Sight.TheVariants as sight

-- the mark is of an item of the queue
abbrev pub IsMarkOf : Layout → Mark → Type 0
IsMarkOf layout m = number_of m < layout.items

unfoldable pub sight_of : List ℕ → Option Sight
sight_of w =
    if bytes_eq w (codes "queue") then Some sight.Queue
    else if bytes_eq w (codes "start") then Some sight.Start
    else if bytes_eq w (codes "end") then Some sight.End
    else None

-- the table of traces
unfoldable pub mark_gives : Layout → Sight → List (List ℕ) → Result Mark FaultKind
mark_gives l sight.Queue ws = of_one mark.Queue (one (item l) ws)
mark_gives l sight.Start ws = of_one mark.Start (one (item l) ws)
mark_gives l sight.End ws = of_one mark.End (one (item l) ws)

abbrev pub trace_grammar : Grammar Sight Mark
trace_grammar = record {
  version = codes "trace 1";
  names_seats = false;
  most = record { items = most_items; senders = 1 };
  names = λ w ws. sight_of w;
  asks = λ l s w ws. mark_gives l s ws;
}
