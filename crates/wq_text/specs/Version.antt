-- Which version of its language a text is written in: its first line says so.
use Rattle.std.specs.Prelude.{ℕ, Bool, List, [], ◌∷◌, if◌then◌else◌}
use Rattle.std.specs.Str.{bytes_eq}
use Rattle.wq_text.specs.Line.{Grammar, Lines, line_gives}
use Rattle.wq_text.specs.Word.{parts}

-- the first line of a text, or what there is of it where no LF ends it
abbrev pub first_part : List (List ℕ) → List ℕ
first_part [] = []
first_part (line ∷ lines) = line

abbrev pub begins_with_line : List ℕ → List ℕ → Bool
begins_with_line line text = bytes_eq (first_part (parts text)) line

-- the lines of a text: those of version 2 where it begins with the first line of that, else those of version 1
abbrev pub lines_of_version : {M N A : Type 0} → Grammar M A → Grammar N A → List ℕ → Lines A
lines_of_version one two text = if begins_with_line two.version text then line_gives two else line_gives one
