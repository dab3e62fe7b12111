-- What was read of a line, by its last byte.
use Rattle.std.specs.Prelude.{◌≡◌, ℕ, List, [], ◌∷◌, ◌++◌}
use Rattle.wq_recording.specs.declared.lines.LineOrRest.{LineOrRest}
use Rattle.wq_recording.specs.declared.lines.LineOrRest.TheVariants as line_or_rest
use Rattle.wq_recording.specs.Lines.{EndsWithLf}

-- a line with its LF, or what no LF ends
abbrev pub IsLineOrRest : List ℕ → LineOrRest → Type 0
IsLineOrRest line (line_or_rest.Line text) = line ≡ text.now ++ 10 ∷ []
IsLineOrRest line (line_or_rest.Rest rest) = (rest.now ≡ line) × (¬ EndsWithLf line)
