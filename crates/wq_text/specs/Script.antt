-- What a script shows.
use Rattle.std.specs.Prelude.{List}
use Rattle.wq_words.specs.declared.layout.Layout.{Layout}
use Rattle.wq_text.specs.declared.command.Command.{Command}
use Rattle.wq_text.specs.declared.script.Script.{Script}

-- the numbers of its queue, and what is asked of it in turn
abbrev pub layout_of : Script → Layout
layout_of script = script.layout

abbrev pub commands_of : Script → List Command
commands_of script = script.commands.items
