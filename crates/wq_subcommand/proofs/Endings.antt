-- Why a subcommand fails, by what came of its text.
use Rattle.std.proofs.Common.{◌≡◌, ℕ, List, Option, sym, subst}
use Rattle.wq_subcommand.specs.declared.failure.Failure.{Failure}
use Rattle.wq_subcommand.specs.declared.failure.Failure.TheVariants as failure
use Rattle.wq_subcommand.specs.Ending.{WritesPart, IsUnmade, Fails}

module _ {E : Type 0} (Means : List ℕ → List ℕ → Type 0) (IsRefused : List ℕ → E → Type 0) where
  pub fails_unmade : (text : List ℕ) (before after : Option (List ℕ)) (cause : Failure E) → IsUnmade IsRefused text cause
      → Fails Means IsRefused text before after cause
  fails_unmade text before after failure.Unwritable none = absurd none
  fails_unmade text before after failure.Unreadable none = tt
  fails_unmade text before after failure.Memory none = tt
  fails_unmade text before after (failure.Refused refusal) none = none

  pub fails_unwritten : (text output : List ℕ) (before after : Option (List ℕ)) (cause : Failure E) → Means text output
      → (cause ≡ failure.Unwritable) × WritesPart output before after → Fails Means IsRefused text before after cause
  fails_unwritten text output before after cause means is = subst (Fails Means IsRefused text before after) (sym is.0) (output, means, is.1)
