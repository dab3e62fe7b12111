-- What is said of a trace.
use Rattle.std.specs.Prelude.{◌≡◌, ℕ, List, [], ◌∷◌, Some, None, codes}
use Rattle.wq_words.specs.declared.layout.Layout.{Layout}
use Rattle.wq_check.specs.declared.cause.MarkError.TheVariants.{NotAllowed}
use Rattle.wq_check.specs.declared.mark.Mark.{Mark}
use Rattle.wq_check.specs.declared.mark_counts.TraceReport.{TraceReport}
use Rattle.wq_check.specs.MarkCauses.{HasMarkError}
use Rattle.wq_check.specs.Trace.{IsLegalTrace, unreturned}
use Rattle.wq_check.specs.TraceReport.{trace_report_of}
use Rattle.wq_recording.specs.HistoryReport.{count_lines}
use Rattle.wq_recording.specs.Verdict.{Rules}

-- the lines of what is counted
abbrev pub trace_counts : TraceReport → List ℕ
trace_counts r = count_lines (
    (codes "marks", r.counts.marks) ∷ (codes "queued", r.counts.queued) ∷ (codes "started", r.counts.started)
    ∷ (codes "ended", r.counts.ended) ∷ (codes "waiting", r.left) ∷ (codes "most waiting", r.counts.most_waiting) ∷ [])

abbrev pub trace_rules : Rules Mark Mark
trace_rules = record {
  tells = λ m. m ∷ [];
  IsLegal = IsLegalTrace;
  HasCause = λ layout t m cause. HasMarkError layout t m (NotAllowed cause);
  word = codes "mark";
  counts = λ t. trace_counts (trace_report_of t);
  left = unreturned;
}

-- no marks are legal
pub trace_begins : (layout : Layout) → IsLegalTrace layout []
trace_begins layout place m here = absurd (never here)
  where
    never : {m : Mark} → None ≡ Some m → ⊥
    never e = cc
