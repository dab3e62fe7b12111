-- The table of commands: the first words of a script's lines, and what they ask for.
use Rattle.std.specs.Prelude.{ℕ, true, List, Option, Some, None, Result, if◌then◌else◌, codes}
use Rattle.std.specs.Str.{bytes_eq}
use Rattle.wq_words.specs.declared.layout.Layout.{Layout}
use Rattle.wq_words.specs.Limits.{most_items, most_text_items}
use Rattle.wq_text.specs.declared.command.Command.{Command}
use Rattle.wq_text.specs.declared.command.Command.TheVariants as command
use Rattle.wq_text.specs.declared.fault.FaultKind.{FaultKind}
use Rattle.wq_text.specs.declared.keyword.Keyword.{Keyword}
use Rattle.wq_text.specs.declared.keyword.Keyword.TheVariants as keyword
use Rattle.wq_text.specs.Arguments.{number, sender, item, barrier, limit, no_word, one, two, one_and_at_most}
use Rattle.wq_text.specs.Fault.{of_none, of_one, of_two}
use Rattle.wq_text.specs.TextLimits.{most_script_senders}
use Rattle.wq_text.specs.Line.{Grammar, Lines}
use Rattle.wq_text.specs.Version.{lines_of_version}

unfoldable pub keyword_at : List ℕ → Option Keyword
keyword_at w =
    if bytes_eq w (codes "queue") then Some keyword.Queue
    else if bytes_eq w (codes "run") then Some keyword.Run
    else if bytes_eq w (codes "close") then Some keyword.Close
    else if bytes_eq w (codes "report") then Some keyword.Report
    else if bytes_eq w (codes "follow") then Some keyword.Follow
    else if bytes_eq w (codes "flush") then Some keyword.Flush
    else if bytes_eq w (codes "done") then Some keyword.Done
    else if bytes_eq w (codes "stop") then Some keyword.Stop
    else if bytes_eq w (codes "drain") then Some keyword.Drain
    else if bytes_eq w (codes "check") then Some keyword.Check
    else if bytes_eq w (codes "arm") then Some keyword.Arm
    else if bytes_eq w (codes "cancel") then Some keyword.Cancel
    else if bytes_eq w (codes "modify") then Some keyword.Modify
    else if bytes_eq w (codes "advance") then Some keyword.Advance
    else None

-- the same in version 2, where a drain is another command
unfoldable pub keyword_at_2 : List ℕ → Option Keyword
keyword_at_2 w = if bytes_eq w (codes "drain") then Some keyword.DrainAndResume else keyword_at w

-- the table of commands
unfoldable pub command_gives : Layout → Keyword → List (List ℕ) → Result Command FaultKind
command_gives l keyword.Queue ws = of_two command.Queue (two (sender l) (item l) ws)
command_gives l keyword.Run ws = of_one command.Run (one limit ws)
command_gives l keyword.Close ws = of_none command.Close (no_word ws)
command_gives l keyword.Report ws = of_none command.Report (no_word ws)
command_gives l keyword.Follow ws = of_two (λ k ks. command.Follow k (record { items = ks })) (one_and_at_most 4 (item l) ws)
command_gives l keyword.Flush ws = of_two command.Flush (two (sender l) (barrier l) ws)
command_gives l keyword.Done ws = of_two command.Done (two (sender l) (barrier l) ws)
command_gives l keyword.Stop ws = of_one command.Stop (one (sender l) ws)
command_gives l keyword.Drain ws = of_one command.Drain (one limit ws)
command_gives l keyword.DrainAndResume ws = of_one command.DrainAndResume (one limit ws)
command_gives l keyword.Check ws = of_one command.Check (one (item l) ws)
command_gives l keyword.Arm ws = of_two command.Arm (two (item l) number ws)
command_gives l keyword.Cancel ws = of_one command.Cancel (one (item l) ws)
command_gives l keyword.Modify ws = of_two command.Modify (two (item l) number ws)
command_gives l keyword.Advance ws = of_one command.Advance (one number ws)

abbrev pub script_grammar : Grammar Keyword Command
script_grammar = record {
  version = codes "wq 1";
  names_seats = true;
  most = record { items = most_text_items; senders = most_script_senders };
  names = λ w ws. keyword_at w;
  asks = λ l k w ws. command_gives l k ws;
}

-- that of version 2
abbrev pub script_grammar_2 : Grammar Keyword Command
script_grammar_2 = record {
  version = codes "wq 2";
  names_seats = true;
  most = record { items = most_items; senders = most_script_senders };
  names = λ w ws. keyword_at_2 w;
  asks = λ l k w ws. command_gives l k ws;
}

-- the lines of a script
abbrev pub script_lines : List ℕ → Lines Command
script_lines = lines_of_version script_grammar script_grammar_2
