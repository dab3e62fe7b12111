-- What a log's text is.
use Rattle.std.specs.Prelude.{◌≡◌, ℕ, Bool, true, List, flat_map}
use Rattle.std.specs.Global.{Vec}

-- a line, as a clause sees it
abbrev pub Line : Type 0
Line = Vec ℕ

-- what a writer has written, whether it had memory for all lines, and the items that it ran and that came back, each with its line
pub record WriterState : Type 0 where
  pub text : List ℕ
  pub is_whole : Bool
  pub ran : List (ℕ × Line)
  pub came_back : List (ℕ × Line)

-- the lines of these items, one behind the other
abbrev pub text_of : List (ℕ × Line) → List ℕ
text_of pairs = flat_map (λ pair. pair.1.items) pairs

-- as long as it had memory, it has written the lines of the items that it ran
abbrev pub IsTextOf : List (ℕ × Line) → Bool → List ℕ → Type 0
IsTextOf ran is_whole text = is_whole ≡ true → text ≡ text_of ran
