-- The exit status of a failure, and what the errors of reading and of texts end the program with.
use Rattle.std.specs.Prelude.{ℕ}
use Rattle.std.specs.IoError.{error_kind}
use Rattle.std.specs.declared.io.Error.{Error}
use Rattle.std.specs.declared.io.ErrorKind.{ErrorKind}
use Rattle.std.specs.declared.io.ErrorKind.TheVariants as kind
use Rattle.wq_text.specs.declared.fault.ParseError.{ParseError}
use Rattle.wq_text.specs.declared.fault.ParseError.TheVariants as parse_errors
use Rattle.wq_text.specs.declared.fault.ScriptError.{ScriptError}
use Rattle.wq_subcommand.specs.declared.failure.Failure.{Failure}
use Rattle.wq_subcommand.specs.declared.failure.Failure.TheVariants as failure

abbrev pub status_of : {E : Type 0} → Failure E → ℕ
status_of failure.Memory = 3
status_of _ = 1

abbrev pub of_kind : {E : Type 0} → ErrorKind → Failure E
of_kind kind.OutOfMemory = failure.Memory
of_kind _ = failure.Unreadable

abbrev pub of_read_error : {E : Type 0} → Error → Failure E
of_read_error e = of_kind (error_kind e)

abbrev pub of_parse_error : ParseError → Failure ScriptError
of_parse_error (parse_errors.Refused refusal) = failure.Refused refusal
of_parse_error parse_errors.Memory = failure.Memory
