-- Lines, words and numbers of a text.
use Rattle.std.specs.Prelude.{ℕ, ◌^◌, Bool, not, ◌&&◌, ◌||◌, List, [], ◌∷◌, length, Option, Some, None, nat_lt, nat_le, ◌==◌, if◌then◌else◌, slice_index}
use Rattle.std.specs.List.{slice_split}
use Rattle.std.specs.Str.{all_ascii_digits}
use Rattle.std.specs.Str.Parse.{digits_value}

-- what stands between the LFs of a text: its lines, and after them what no LF ends
abbrev pub parts : List ℕ → List (List ℕ)
parts text = slice_split (λ b. b == 10) text

-- what stands between the spaces of a line
abbrev pub words : List ℕ → List (List ℕ)
words line = slice_split (λ b. b == 32) line

abbrev pub is_word : List ℕ → Bool
is_word w = nat_lt 0 (length w)

-- all words but the first, of which there may be none
abbrev pub without_first : List (List ℕ) → List (List ℕ)
without_first [] = []
without_first (w ∷ ws) = ws

abbrev pub is_plain : ℕ → Bool
is_plain b = nat_le 32 b && nat_le b 126

-- digits, with no zero in front of others
abbrev pub is_numeral : List ℕ → Bool
is_numeral w = nat_lt 0 (length w) && (all_ascii_digits w && (nat_le (length w) 1 || not (slice_index w 0 == 48)))

unfoldable pub spelled_number : List ℕ → Option ℕ
spelled_number w = if is_numeral w && nat_lt (digits_value 10 w) (2 ^ 64) then Some (digits_value 10 w) else None
