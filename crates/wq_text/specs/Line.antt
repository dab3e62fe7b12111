-- What a line of a text gives, or its first fault: the table of refusals, row by row, for texts of any kind.
use Rattle.std.specs.Prelude.{ℕ, Bool, true, List, [], ◌∷◌, Option, Some, None, Result, Ok, Err, ◌==◌, if◌then◌else◌}
use Rattle.std.specs.List.{list_all}
use Rattle.std.specs.Str.{bytes_eq}
use Rattle.wq_words.specs.declared.layout.Layout.{Layout}
use Rattle.wq_text.specs.declared.fault.FaultKind.{FaultKind}
use Rattle.wq_text.specs.declared.fault.FaultKind.TheVariants as kind
use Rattle.wq_text.specs.declared.header.Most.{Most}
use Rattle.wq_text.specs.declared.header.Awaited.{Awaited}
use Rattle.wq_text.specs.declared.header.Awaited.TheVariants as awaited
use Rattle.wq_text.specs.Fault.{◌>>=◌, need, found, of_none, of_one}
use Rattle.wq_text.specs.Header.{is_header, layout_at, header_line_gives}
use Rattle.wq_text.specs.Word.{words, is_plain, is_word}

-- what one kind of text has of its own: its first line, whether its header names senders and barriers, how many items and senders
-- there may be, what the first word of a line and the others name, and what they ask of a queue
pub record Grammar (N A : Type 0) : Type 0 where
  pub version : List ℕ
  pub names_seats : Bool
  pub most : Most
  pub names : List ℕ → List (List ℕ) → Option N
  pub asks : Layout → N → List ℕ → List (List ℕ) → Result A FaultKind

-- what a line gives, by which line is awaited: what is awaited next, and what the line asks for, if anything
abbrev pub Lines : Type 0 → Type 0
Lines A = Awaited → List ℕ → Result (Awaited × Option A) FaultKind

-- a line that is none of the header
abbrev pub asking_line : {N A : Type 0} → Grammar N A → Awaited → List ℕ → List (List ℕ) → Result (Awaited × Option A) FaultKind
asking_line g s w ws = do
  name ← found kind.Word (g.names w ws)
  layout ← found kind.Header (layout_at s)
  of_one (λ a. (awaited.Commands layout, Some a)) (g.asks layout name w ws)

abbrev pub by_first_word : {N A : Type 0} → Grammar N A → Awaited → List ℕ → List (List ℕ) → Result (Awaited × Option A) FaultKind
by_first_word g s w ws = if is_header w then of_one (λ next. (next, None)) (header_line_gives g.names_seats g.most s w ws) else asking_line g s w ws

abbrev pub by_words : {N A : Type 0} → Grammar N A → Awaited → List (List ℕ) → Result (Awaited × Option A) FaultKind
by_words g s [] = Err kind.Word
by_words g s (w ∷ ws) = by_first_word g s w ws

-- the words of a line that is not passed over
unfoldable pub words_give : {N A : Type 0} → Grammar N A → Awaited → List (List ℕ) → Result (Awaited × Option A) FaultKind
words_give g s ws = do
  _ ← need kind.Space (list_all is_word ws)
  by_words g s ws

-- a line that is not passed over
unfoldable pub plain_line_gives : {N A : Type 0} → Grammar N A → Awaited → List ℕ → Result (Awaited × Option A) FaultKind
plain_line_gives g s line = do
  _ ← need kind.Bytes (list_all is_plain line)
  words_give g s (words line)

-- an empty line, or a comment
abbrev pub is_passed_over : List ℕ → Bool
is_passed_over [] = true
is_passed_over (b ∷ bs) = b == 35

-- a line of a text
abbrev pub line_gives : {N A : Type 0} → Grammar N A → Lines A
line_gives g awaited.Version line = of_none (awaited.Items, None) (need kind.Version (bytes_eq line g.version))
line_gives g s line = if is_passed_over line then Ok (s, None) else plain_line_gives g s line
