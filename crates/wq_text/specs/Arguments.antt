-- The words behind a keyword, and the numbers that they are.
use Rattle.std.specs.Prelude.{ℕ, ◌&&◌, List, [], ◌∷◌, length, Result, Ok, Err, nat_lt, nat_le, if◌then◌else◌}
use Rattle.wq_text.specs.declared.fault.FaultKind.{FaultKind}
use Rattle.wq_text.specs.declared.fault.FaultKind.TheVariants as kind
use Rattle.wq_words.specs.declared.layout.Layout.{Layout}
use Rattle.wq_text.specs.Fault.{◌>>=◌, need, found}
use Rattle.wq_text.specs.TextLimits.{most_executions}
use Rattle.wq_text.specs.Word.{spelled_number}

-- a word that is a number, and its range
abbrev pub number : List ℕ → Result ℕ FaultKind
number w = found kind.Number (spelled_number w)

unfoldable pub between : FaultKind → ℕ → ℕ → List ℕ → Result ℕ FaultKind
between k low high w = do
  n ← number w
  _ ← need k (nat_le low n && nat_le n high)
  Ok n

unfoldable pub below : FaultKind → ℕ → List ℕ → Result ℕ FaultKind
below k bound w = do
  n ← number w
  _ ← need k (nat_lt n bound)
  Ok n

abbrev pub sender : Layout → List ℕ → Result ℕ FaultKind
sender layout w = below kind.Sender layout.senders w

abbrev pub item : Layout → List ℕ → Result ℕ FaultKind
item layout w = below kind.Item layout.items w

abbrev pub barrier : Layout → List ℕ → Result ℕ FaultKind
barrier layout w = below kind.Barrier layout.barriers w

abbrev pub limit : List ℕ → Result ℕ FaultKind
limit w = between kind.Limit 1 most_executions w

-- so many words stand there
abbrev pub no_word : List (List ℕ) → Result (Unit {0}) FaultKind
no_word [] = Ok tt
no_word ws = Err kind.Count

abbrev pub one_word : List (List ℕ) → Result (List ℕ) FaultKind
one_word (w ∷ []) = Ok w
one_word ws = Err kind.Count

abbrev pub two_words : List (List ℕ) → Result (List ℕ × List ℕ) FaultKind
two_words (w ∷ v ∷ []) = Ok (w, v)
two_words ws = Err kind.Count

abbrev pub word_and_at_most : ℕ → List (List ℕ) → Result (List ℕ × List (List ℕ)) FaultKind
word_and_at_most n [] = Err kind.Count
word_and_at_most n (w ∷ ws) = if nat_le (length ws) n then Ok (w, ws) else Err kind.Count

-- their numbers, word by word from the left
abbrev pub one : (List ℕ → Result ℕ FaultKind) → List (List ℕ) → Result ℕ FaultKind
one read ws = do
  w ← one_word ws
  read w

abbrev pub two : (List ℕ → Result ℕ FaultKind) → (List ℕ → Result ℕ FaultKind) → List (List ℕ) → Result (ℕ × ℕ) FaultKind
two first second ws = do
  w ← two_words ws
  x ← first w.0
  y ← second w.1
  Ok (x, y)

unfoldable pub each : (List ℕ → Result ℕ FaultKind) → List (List ℕ) → Result (List ℕ) FaultKind
each read [] = Ok []
each read (w ∷ ws) = read w >>= λ x. each read ws >>= λ xs. Ok (x ∷ xs)

abbrev pub one_and_at_most : ℕ → (List ℕ → Result ℕ FaultKind) → List (List ℕ) → Result (ℕ × List ℕ) FaultKind
one_and_at_most n read ws = do
  w ← word_and_at_most n ws
  x ← read w.0
  xs ← each read w.1
  Ok (x, xs)
