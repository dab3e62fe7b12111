use Rattle.wq_recording.proofs.Common.{sym, subst}
use Rattle.wq_check.specs.TraceChecked.{TraceCheckerState, IsAfterMarks}
use Rattle.wq_recording.specs.TraceReport.{trace_rules}
use Rattle.wq_recording.proofs.Telling.{first_violates}
use Rattle.wq_recording.proofs.trace_checked.TraceLanguageRecording.tell.Goals as goal

pub returns-in-Err-NotAllowed-clause-stopped : goal.returns-in-Err-NotAllowed-clause-stopped
returns-in-Err-NotAllowed-clause-stopped c = λ t after.
    let refused = rw (c.in-Err-NotAllowed.field-0-is) at c.in-Err-NotAllowed.ensures.refused in
    let P : TraceCheckerState → Type 0 = λ k. IsAfterMarks k t in
    first_violates trace_rules _ t c.args.mark _ (IsAfterMarks c.mark.new.self) c.in-Err-NotAllowed.cause
    (subst P (sym c.in-Err-NotAllowed.ensures.unchanged) after) (refused t after)
