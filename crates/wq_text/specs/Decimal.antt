-- What reading a number is worth: it undoes the writing of one.
use Rattle.std.specs.Prelude.{◌≡◌, ◌↔◌, ℕ, ◌^◌, ◌<◌, List, Some}
use Rattle.std.specs.Fmt.{decimal}
use Rattle.wq_text.specs.Word.{spelled_number}

-- a word is the number n exactly where it is what `{}` writes for n, below 2 ^ 64
abbrev pub ReadsDecimals : Type 0
ReadsDecimals = (w : List ℕ) (n : ℕ) → (spelled_number w ≡ Some n) ↔ ((w ≡ decimal n) × (n < 2 ^ 64))
