-- What the program makes of a recording.
use Rattle.std.specs.Prelude.{◌≡◌, ℕ, ◌==◌, Bool, ◌&&◌, ◌||◌, not, if◌then◌else◌, List, Option}
use Rattle.std.specs.Io.KnownBytes.{Appends}
use Rattle.wq_text.specs.declared.fault.ScriptError.{ScriptError}
use Rattle.wq_recording.specs.declared.finding.Finding.{Finding}
use Rattle.wq_recording.specs.Checking.{IsFoundOf}
use Rattle.wq_recording.specs.declared.error.CheckError.{CheckError}
use Rattle.wq_recording.specs.declared.error.CheckError.TheVariants as check_errors
use Rattle.wq_subcommand.specs.Failure.{of_read_error, of_parse_error}
use Rattle.wq_subcommand.specs.declared.failure.Failure.{Failure}

-- all is legal and, if that is asked for, nothing is left
abbrev pub passes : Bool → Finding → Bool
passes wants_drained finding = finding.is_legal && (not wants_drained || finding.left == 0)

abbrev pub finding_status : Bool → Finding → ℕ
finding_status wants_drained finding = if passes wants_drained finding then 0 else 4

-- just what was found was written, and this is its status
abbrev pub IsSaid : Bool → ℕ → Option (List ℕ) → Option (List ℕ) → Finding → Type 0
IsSaid wants_drained status before after finding = Appends before after finding.text.items × (status ≡ finding_status wants_drained finding)

-- what was found of the recording was written, and this is its status
pub record WritesFinding (wants_drained : Bool) (text : List ℕ) (status : ℕ) (before after : Option (List ℕ)) : Type 0 where
  pub finding : Finding
  pub found : IsFoundOf text finding
  pub said : IsSaid wants_drained status before after finding

-- the output says what is found of the text
pub record ReportsFinding (text output : List ℕ) : Type 0 where
  pub finding : Finding
  pub found : IsFoundOf text finding
  pub output_is : output ≡ finding.text.items

-- nothing is found for this error
abbrev pub of_check_error : CheckError → Failure ScriptError
of_check_error (check_errors.Read e) = of_read_error e
of_check_error (check_errors.Text e) = of_parse_error e
