-- What the program makes of a script's text.
use Rattle.std.specs.Prelude.{◌≡◌, ℕ, List}
use Rattle.wq_text.specs.declared.fault.ScriptError.{ScriptError}
use Rattle.wq_text.specs.declared.script.Script.{Script}
use Rattle.wq_script.specs.Script.{layout_of, commands_of}
use Rattle.wq_script.specs.Commands.{output_of}
use Rattle.wq_script.specs.Keyword.{script_lines}
use Rattle.wq_script.specs.Text.{Spells, IsRefusal}

-- the text spells a script, and these are the bytes of its output
pub record Reports (text report : List ℕ) : Type 0 where
  pub script : Script
  pub spells : Spells (script_lines text) text (layout_of script) (commands_of script)
  pub report_is : report ≡ output_of (layout_of script) (commands_of script)

-- the text has no report, since it is refused for this
abbrev pub HasNoReport : List ℕ → ScriptError → Type 0
HasNoReport text refusal = IsRefusal (script_lines text) text refusal
