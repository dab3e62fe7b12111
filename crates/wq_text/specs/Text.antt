-- What a text spells, or why it is refused, said of its lines and not of reading them.
use Rattle.std.specs.Prelude.{◌≡◌, ℕ, ◌+◌, ◌<◌, ◌≤◌, ◌⊎◌, List, [], ◌∷◌, ◌++◌, length, Option, Some, None, Result, Ok, Err}
use Rattle.std.specs.Option.{option_to_list}
use Rattle.wq_words.specs.declared.layout.Layout.{Layout}
use Rattle.wq_text.specs.declared.fault.FaultKind.{FaultKind}
use Rattle.wq_text.specs.declared.fault.FaultKind.TheVariants as kind
use Rattle.wq_text.specs.declared.fault.ScriptError.{ScriptError}
use Rattle.wq_text.specs.declared.header.Awaited.{Awaited}
use Rattle.wq_text.specs.declared.header.Awaited.TheVariants as awaited
use Rattle.wq_text.specs.Header.{layout_at}
use Rattle.wq_text.specs.TextLimits.{most_bytes}
use Rattle.wq_text.specs.Line.{Lines}
use Rattle.wq_text.specs.Word.{parts}

-- none of the lines has a fault; s is awaited before them and t behind them, and they ask for these in turn
abbrev pub LinesLead : {A : Type 0} → Lines A → Awaited → List (List ℕ) → Awaited → List A → Type 0
LinesLead gives s [] t asked = (s ≡ t) × (asked ≡ [])
LinesLead {A} gives s (line ∷ lines) t asked =
    (x : Awaited × Option A) × (rest : List A) × (gives s line ≡ Ok x) × (asked ≡ option_to_list x.1 ++ rest) × LinesLead gives x.0 lines t rest

-- the text is short enough and ends behind lines without a fault, and with them the header is complete
pub record Spells {A : Type 0} (gives : Lines A) (text : List ℕ) (layout : Layout) (asked : List A) : Type 0 where
  pub short : length text ≤ most_bytes
  pub lines : List (List ℕ)
  pub reached : Awaited
  pub split : parts text ≡ lines ++ [] ∷ []
  pub leads : LinesLead gives awaited.Version lines reached asked
  pub whole : layout_at reached ≡ Some layout

-- what is wrong where a text ends without a whole header
abbrev pub end_fault : Awaited → Option FaultKind
end_fault awaited.Version = Some kind.Version
end_fault awaited.Items = Some kind.Header
end_fault (awaited.Senders layout) = Some kind.Header
end_fault s = None

-- the fault k of a line, which parts follow; the last part is no line, and is to be empty
abbrev pub HasLineFault : {A : Type 0} → Lines A → Awaited → List ℕ → List (List ℕ) → FaultKind → Type 0
HasLineFault gives s line (next ∷ more) k = gives s line ≡ Err k
HasLineFault gives s (b ∷ bs) [] k = k ≡ kind.Cut
HasLineFault gives s [] [] k = end_fault s ≡ Some k

-- the lines before the faulty one have no fault
pub record IsFaultyAt {A : Type 0} (gives : Lines A) (text : List ℕ) (e : ScriptError) : Type 0 where
  pub short : length text ≤ most_bytes
  pub before : List (List ℕ)
  pub faulty : List ℕ
  pub behind : List (List ℕ)
  pub reached : Awaited
  pub asked : List A
  pub split : parts text ≡ before ++ faulty ∷ behind
  pub leads : LinesLead gives awaited.Version before reached asked
  pub number : e.line ≡ 1 + length before
  pub fault : HasLineFault gives reached faulty behind e.kind

abbrev pub IsTooLong : List ℕ → ScriptError → Type 0
IsTooLong text e = (most_bytes < length text) × (e ≡ record { line = 1; kind = kind.Size })

-- the text is too long, or this is its first faulty line and the first fault on it
abbrev pub IsRefusal : {A : Type 0} → Lines A → List ℕ → ScriptError → Type 0
IsRefusal gives text e = IsTooLong text e ⊎ IsFaultyAt gives text e

-- what becomes of a text
abbrev pub HasOutcome : {A : Type 0} → Lines A → List ℕ → Result (Layout × List A) ScriptError → Type 0
HasOutcome gives text (Ok x) = Spells gives text x.0 x.1
HasOutcome gives text (Err e) = IsRefusal gives text e

abbrev pub HasOneOutcome : {A : Type 0} → Lines A → List ℕ → Type 0
HasOneOutcome {A} gives text = (x y : Result (Layout × List A) ScriptError) → HasOutcome gives text x → HasOutcome gives text y → x ≡ y
