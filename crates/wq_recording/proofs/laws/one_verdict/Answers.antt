use Rattle.wq_text.specs.Line.{line_gives}
use Rattle.wq_recording.specs.History.{history_grammar}
use Rattle.wq_recording.specs.HistoryReport.{history_rules}
use Rattle.wq_recording.specs.Trace.{trace_grammar}
use Rattle.wq_recording.specs.TraceReport.{trace_rules}
use Rattle.wq_recording.specs.Verdict.{recording_line}
use Rattle.wq_recording.proofs.Deciding.{decided, decided_by_length}
use Rattle.wq_recording.proofs.Fitting.{history_fits, trace_fits}
use Rattle.wq_recording.proofs.Verdicts.{one_verdict}
use Rattle.wq_recording.proofs.laws.one_verdict.Goals as goal

pub returns-clause-history : goal.returns-clause-history
returns-clause-history c = one_verdict (recording_line history_grammar) history_rules history_fits

pub returns-clause-trace : goal.returns-clause-trace
returns-clause-trace c = one_verdict (recording_line trace_grammar) trace_rules trace_fits

pub returns-clause-history_decided : goal.returns-clause-history_decided
returns-clause-history_decided c = λ text other. decided (recording_line history_grammar) history_rules text other

pub returns-clause-trace_decided : goal.returns-clause-trace_decided
returns-clause-trace_decided c = λ text other. decided (recording_line trace_grammar) trace_rules text other

pub returns-clause-history_too_long : goal.returns-clause-history_too_long
returns-clause-history_too_long c = λ text other. decided_by_length (line_gives history_grammar) history_rules text other

pub returns-clause-trace_too_long : goal.returns-clause-trace_too_long
returns-clause-trace_too_long c = λ text other. decided_by_length (line_gives trace_grammar) trace_rules text other
