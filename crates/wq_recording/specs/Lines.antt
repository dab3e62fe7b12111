-- What is read of a line.
use Rattle.std.specs.Prelude.{◌≡◌, ◌≢◌, ℕ, ◌+◌, ◌-◌, ◌<◌, ◌≤◌, ◌⊎◌, Bool, true, false, List, length, All, Option, OnSome, slice_index}
use Rattle.std.specs.Io.{StopsAt}
use Rattle.std.specs.Io.KnownBytes.{IsAtEnd}

-- how many bytes a line may have before its LF
abbrev pub most_line_bytes : ℕ
most_line_bytes = 4096

-- the last byte is LF
abbrev pub EndsWithLf : List ℕ → Type 0
EndsWithLf line = (0 < length line) × (slice_index line (length line - 1) ≡ 10)

-- it ends with an LF, or has a byte too many, or nothing is left of the bytes, where they were known
abbrev pub LineEnds : List ℕ → Option (List ℕ) → Option (List ℕ) → Type 0
LineEnds line known left = EndsWithLf line ⊎ ((most_line_bytes < length line) ⊎ OnSome known (IsAtEnd left))

-- it ends so, or has no LF yet
abbrev pub EndsOrGoesOn : Bool → List ℕ → Option (List ℕ) → Option (List ℕ) → Type 0
EndsOrGoesOn true line known left = LineEnds line known left
EndsOrGoesOn false line known left = All (λ x. x ≢ 10) line

-- the bytes of a line with its LF, or what there is of one that is too long or the last; no byte but the last is LF
pub record IsLineRead (line : List ℕ) (known left : Option (List ℕ)) : Type 0 where
  pub few : length line ≤ most_line_bytes + 1
  pub stops : StopsAt line 10
  pub ends : LineEnds line known left
