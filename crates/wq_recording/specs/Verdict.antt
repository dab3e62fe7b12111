-- What is said of a recording, of its lines and not of reading them: that all of it is legal, or where the first event stands that
-- is not, and why, or its first faulty line.
use Rattle.std.specs.Prelude.{◌≡◌, ◌≢◌, ℕ, ◌+◌, ◌-◌, ◌<◌, Bool, List, [], ◌∷◌, ◌++◌, length, take, get_or, flat_map, nat_le, if◌then◌else◌}
use Rattle.std.specs.Prelude.{Option, Some, Result, Ok, Err, MatchOption, option_map}
use Rattle.wq_words.specs.declared.layout.Layout.{Layout}
use Rattle.wq_check.specs.declared.cause.Cause.{Cause}
use Rattle.wq_text.specs.declared.fault.FaultKind.{FaultKind}
use Rattle.wq_text.specs.declared.fault.FaultKind.TheVariants as kind
use Rattle.wq_text.specs.declared.fault.ScriptError.{ScriptError}
use Rattle.wq_text.specs.declared.header.Awaited.{Awaited}
use Rattle.wq_text.specs.declared.header.Awaited.TheVariants as awaited
use Rattle.wq_text.specs.Fault.{◌>>=◌, need}
use Rattle.wq_text.specs.Header.{layout_at}
use Rattle.wq_text.specs.Line.{Grammar, Lines, line_gives}
use Rattle.wq_text.specs.Text.{LinesLead, end_fault}
use Rattle.wq_text.specs.Word.{parts}
use Rattle.wq_recording.specs.declared.violation.Violation.{Violation}
use Rattle.wq_recording.specs.Lines.{most_line_bytes}

-- What one kind of recording has of its own: the events that a line tells, which events are legal, why one may not come after
-- legal ones, what one is called, what is counted of them, and what they leave undone.
pub record Rules (A E : Type 0) : Type 1 where
  pub tells : A → List E
  pub IsLegal : Layout → List E → Type 0
  pub HasCause : Layout → List E → E → Cause → Type 0
  pub word : List ℕ
  pub counts : List E → List ℕ
  pub left : List E → List ℕ

-- a line of a recording is short, which is tested before all else
abbrev pub is_short : List ℕ → Bool
is_short line = nat_le (length line) most_line_bytes

abbrev pub short_line : {A : Type 0} → Lines A → Lines A
short_line gives s line = do
  _ ← need kind.Size (is_short line)
  gives s line

abbrev pub recording_line : {N A : Type 0} → Grammar N A → Lines A
recording_line g = short_line (line_gives g)

-- what is wrong with what no LF ends, if anything
abbrev pub last_fault : Awaited → List ℕ → Option FaultKind
last_fault s [] = end_fault s
last_fault s (b ∷ bs) = Some (if is_short (b ∷ bs) then kind.Cut else kind.Size)

-- Line n of a text, counted from 1, is this one, with these parts behind it. No line before it has a fault; behind them
-- s is awaited, and they ask for these in turn.
pub record IsLineAt {A : Type 0} (gives : Lines A) (text : List ℕ) (n : ℕ) (s : Awaited) (asked : List A) (line : List ℕ)
    (behind : List (List ℕ)) : Type 0 where
  pub before : List (List ℕ)
  pub split : parts text ≡ before ++ line ∷ behind
  pub leads : LinesLead gives awaited.Version before s asked
  pub number : n ≡ 1 + length before

-- the events that are legal, of all or of those before the violation
pub record Verdict (E : Type 0) : Type 0 where
  pub layout : Layout
  pub events : List E
  pub violation : Option Violation

module _ {A E : Type 0} (gives : Lines A) (rules : Rules A E) (text : List ℕ) where
  -- each line is whole and has no fault, with them the header is complete, and all that they tell is legal
  pub record IsLegalText (layout : Layout) (events : List E) : Type 0 where
    pub number : ℕ
    pub reached : Awaited
    pub asked : List A
    pub at : IsLineAt gives text number reached asked [] []
    pub whole : layout_at reached ≡ Some layout
    pub events_are : events ≡ flat_map rules.tells asked
    pub legal : rules.IsLegal layout events

  -- the line is whole and has no fault, and its first event that is not legal has this cause
  pub record IsFirstViolation (layout : Layout) (events : List E) (violation : Violation) : Type 0 where
    pub reached : Awaited
    pub asked : List A
    pub line : List ℕ
    pub behind : List (List ℕ)
    pub at : IsLineAt gives text violation.line reached asked line behind
    pub ended : behind ≢ []
    pub next : Awaited
    pub one : A
    pub given : gives reached line ≡ Ok (next, Some one)
    pub whole : layout_at next ≡ Some layout
    pub first : List E
    pub event : E
    pub rest : List E
    pub cut : rules.tells one ≡ first ++ event ∷ rest
    pub events_are : events ≡ flat_map rules.tells asked ++ first
    pub legal : rules.IsLegal layout events
    pub caused : rules.HasCause layout events event violation.cause

  -- the fault k of a line that is followed by others, or of what no LF ends
  abbrev pub HasFaultAt : Awaited → List ℕ → List (List ℕ) → FaultKind → Type 0
  HasFaultAt s line (next ∷ more) k = gives s line ≡ Err k
  HasFaultAt s rest [] k = last_fault s rest ≡ Some k

  -- the first faulty line and its first fault, where all that the lines before tell is legal
  pub record IsRefusedText (e : ScriptError) : Type 0 where
    pub reached : Awaited
    pub asked : List A
    pub line : List ℕ
    pub behind : List (List ℕ)
    pub at : IsLineAt gives text e.line reached asked line behind
    pub legal : (layout : Layout) → layout_at reached ≡ Some layout → rules.IsLegal layout (flat_map rules.tells asked)
    pub fault : HasFaultAt reached line behind e.kind

  -- what is said of the text
  abbrev pub HasVerdict : Result (Verdict E) ScriptError → Type 0
  HasVerdict (Ok v) = MatchOption v.violation (IsLegalText v.layout v.events) (IsFirstViolation v.layout v.events)
  HasVerdict (Err e) = IsRefusedText e

-- one thing is said of a text at most
abbrev pub HasOneVerdict : {A E : Type 0} → Lines A → Rules A E → Type 0
HasOneVerdict {A} {E} gives rules =
    (text : List ℕ) (v w : Result (Verdict E) ScriptError) → HasVerdict gives rules text v → HasVerdict gives rules text w → v ≡ w

-- the line that decides, where the text is not legal or refused
abbrev pub deciding_line : {E : Type 0} → Result (Verdict E) ScriptError → Option ℕ
deciding_line (Ok v) = option_map (λ (s : Violation). s.line) v.violation
deciding_line (Err e) = Some e.line

-- where that line is whole, what stands behind it changes nothing
abbrev pub IsDecidedByLine : {A E : Type 0} → Lines A → Rules A E → Type 0
IsDecidedByLine {A} {E} gives rules =
    (text other : List ℕ) (n : ℕ) (v : Result (Verdict E) ScriptError) → HasVerdict gives rules text v → deciding_line v ≡ Some n
    → n < length (parts text) → n < length (parts other) → take n (parts other) ≡ take n (parts text) → HasVerdict gives rules other v

-- line n is too long, whole or not
abbrev pub IsTooLongAt : ℕ → List ℕ → Type 0
IsTooLongAt n text = most_line_bytes < length (get_or (parts text) (n - 1) [])

-- where that line is too long, neither the rest of it nor what stands behind it changes anything
abbrev pub IsDecidedByLength : {N A E : Type 0} → Grammar N A → Rules A E → Type 0
IsDecidedByLength {N} {A} {E} g rules =
    (text other : List ℕ) (n : ℕ) (v : Result (Verdict E) ScriptError) → HasVerdict (recording_line g) rules text v → deciding_line v ≡ Some n
    → IsTooLongAt n text → IsTooLongAt n other → take (n - 1) (parts other) ≡ take (n - 1) (parts text) → HasVerdict (recording_line g) rules other v
