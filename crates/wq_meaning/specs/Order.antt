-- What the delay table of a script keeps.
use Rattle.std.specs.Prelude.{List, fold}
use Rattle.std.specs.List.{AllPairs}
use Rattle.wq_words.specs.declared.layout.Layout.{Layout}
use Rattle.wq_words.specs.DelayTable.{Entry, IsBefore}
use Rattle.wq_text.specs.declared.command.Command.{Command}
use Rattle.wq_meaning.specs.Commands.{ScriptState, opening_state, state_after}

-- each entry goes out before all that stand behind it: by due tick, then by arming number
abbrev pub IsInOrder : List Entry → Type 0
IsInOrder entries = AllPairs IsBefore entries

-- the state after all commands
abbrev pub final_state : Layout → List Command → ScriptState
final_state layout commands = fold (state_after layout) (opening_state layout) commands
