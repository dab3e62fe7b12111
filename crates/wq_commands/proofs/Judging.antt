-- What follows for `check_main` from what was found and how it was written.
use Rattle.std.proofs.Common.{◌≡◌, ℕ, List, Bool, Option, Some, None, IfSome, refl, sym, subst}
use Rattle.std.specs.Prelude.{Result, Ok, Err, IfOk, IfErr, IsOkAnd, MatchResult}
use Rattle.wq_text.specs.declared.fault.ScriptError.{ScriptError}
use Rattle.wq_recording.specs.declared.finding.Finding.{Finding}
use Rattle.wq_recording.specs.Checking.{IsFoundOf, IsRefusedFor}
use Rattle.wq_subcommand.specs.declared.failure.Failure.{Failure}
use Rattle.wq_subcommand.specs.declared.failure.Failure.TheVariants as failure
use Rattle.wq_subcommand.specs.Ending.{WritesPart, IsUnmade, Fails}
use Rattle.wq_subcommand.proofs.Endings.{fails_unmade, fails_unwritten}
use Rattle.wq_commands.specs.Judged.{WritesFinding, ReportsFinding, IsSaid}

pub judges_at_end : (wants_drained : Bool) (status : ℕ) (remaining : Option (List ℕ))
    (finding : Result Finding (Failure ScriptError)) (before after : Option (List ℕ))
    → IfOk finding (λ f. IfSome remaining (λ bytes. IsFoundOf bytes f)) → IsOkAnd finding (IsSaid wants_drained status before after)
    → IfSome remaining (λ bytes. WritesFinding wants_drained bytes status before after)
judges_at_end wants_drained status None finding before after found said = tt
judges_at_end wants_drained status (Some bytes) (Ok f) before after found said = record { finding = f; found = found; said = said }
judges_at_end wants_drained status (Some bytes) (Err cause) before after found said = absurd said

pub fails_unsaid : (remaining : Option (List ℕ)) (finding : Result Finding (Failure ScriptError)) (before after : Option (List ℕ)) (cause : Failure ScriptError)
    → IfOk finding (λ f. IfSome remaining (λ bytes. IsFoundOf bytes f))
    → IfErr finding (λ f. IfSome remaining (λ bytes. IsUnmade IsRefusedFor bytes f))
    → MatchResult finding (λ f. (cause ≡ failure.Unwritable) × WritesPart f.text.items before after) (λ f. cause ≡ f)
    → IfSome remaining (λ bytes. Fails ReportsFinding IsRefusedFor bytes before after cause)
fails_unsaid None finding before after cause found none is = tt
fails_unsaid (Some bytes) (Ok f) before after cause found none is =
    fails_unwritten ReportsFinding IsRefusedFor bytes f.text.items before after cause (record { finding = f; found = found; output_is = refl }) is
fails_unsaid (Some bytes) (Err f) before after cause found none is =
    subst (Fails ReportsFinding IsRefusedFor bytes before after) (sym is)
    (fails_unmade ReportsFinding IsRefusedFor bytes before after f none)
