-- What a subcommand makes of the bytes of a reader, for any language of texts: which outputs a text means, and which
-- refusals say that it has none. `E` is what a text of the language is refused for.
use Rattle.std.specs.Prelude.{◌≡◌, ℕ, List, Option}
use mathlib.Core.List.{IsPrefix}
use Rattle.std.specs.Io.KnownBytes.{Appends}
use Rattle.wq_subcommand.specs.declared.failure.Failure.{Failure}
use Rattle.wq_subcommand.specs.declared.failure.Failure.TheVariants as failure

-- the text means an output, and what was written grew by just that
pub record Writes (Means : List ℕ → List ℕ → Type 0) (text : List ℕ) (before after : Option (List ℕ)) : Type 0 where
  pub output : List ℕ
  pub means : Means text output
  pub appends : Appends before after output

-- what was written grew by a beginning of the output, which may be none of it or all
pub record WritesPart (output : List ℕ) (before after : Option (List ℕ)) : Type 0 where
  pub taken : List ℕ
  pub begins : IsPrefix taken output
  pub appends : Appends before after taken

-- a text has no output, for this cause: it is refused for this, or memory or a thread was wanting
abbrev pub LacksOutput : {E : Type 0} → (List ℕ → E → Type 0) → List ℕ → Failure E → Type 0
LacksOutput IsRefused text (failure.Refused refusal) = IsRefused text refusal
LacksOutput IsRefused text failure.Memory = Unit {0}
LacksOutput IsRefused text _ = ⊥

-- nothing was made of what a reader gave, for this cause: the reader failed, or the text has no output
abbrev pub IsUnmade : {E : Type 0} → (List ℕ → E → Type 0) → List ℕ → Failure E → Type 0
IsUnmade IsRefused text failure.Unreadable = Unit {0}
IsUnmade IsRefused text cause = LacksOutput IsRefused text cause

-- The output of a text was not, or not all, written for this cause: only where the text means an output was the writing begun,
-- and then a beginning of that output was written.
abbrev pub Fails : {E : Type 0} → (List ℕ → List ℕ → Type 0) → (List ℕ → E → Type 0) → List ℕ → Option (List ℕ) → Option (List ℕ) → Failure E → Type 0
Fails Means IsRefused text before after failure.Unwritable = (output : List ℕ) × Means text output × WritesPart output before after
Fails Means IsRefused text before after cause = IsUnmade IsRefused text cause

-- the text could not be read, or memory was wanting
abbrev pub HasNoText : {E : Type 0} → Failure E → Type 0
HasNoText failure.Unreadable = Unit {0}
HasNoText failure.Memory = Unit {0}
HasNoText _ = ⊥

-- a writer that got nothing, unless just the writing failed
abbrev pub IsUntouched : {E W : Type 0} → Failure E → W → W → Type 0
IsUntouched failure.Unwritable before after = Unit {0}
IsUntouched _ before after = after ≡ before
