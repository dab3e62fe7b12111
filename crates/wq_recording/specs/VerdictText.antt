-- How a verdict reads.
use Rattle.std.specs.Prelude.{◌≡◌, ℕ, ◌+◌, List, ◌++◌, length, Option, Some, None, Ok, is_none, codes}
use Rattle.wq_words.specs.declared.layout.Layout.{Layout}
use Rattle.wq_check.specs.declared.cause.Cause.{Cause}
use Rattle.wq_check.specs.declared.cause.Cause.TheVariants.{Pending, Idle, NotHeld, Closed, Draining, NotDraining, NeverDrained, Open, Runs, NothingRuns, NotWaiting, Next, NotEnded}
use Rattle.wq_words.specs.Counting.{capped}
use Rattle.wq_meaning.specs.Names.{named, row_text}
use Rattle.wq_meaning.specs.Report.{line, count_line}
use Rattle.wq_recording.specs.declared.finding.Finding.{Finding}
use Rattle.wq_recording.specs.declared.violation.Violation.{Violation}
use Rattle.wq_recording.specs.Verdict.{Rules, Verdict, HasVerdict}
use Rattle.wq_text.specs.Line.{Lines}

abbrev pub cause_text : Layout → Cause → List ℕ
cause_text layout Pending = codes "pending"
cause_text layout Idle = codes "idle"
cause_text layout NotHeld = codes "not held"
cause_text layout Closed = codes "closed"
cause_text layout Draining = codes "draining"
cause_text layout NotDraining = codes "not draining"
cause_text layout NeverDrained = codes "never drained"
cause_text layout Open = codes "open"
cause_text layout (Runs k) = codes "runs" ++ named layout k
cause_text layout NothingRuns = codes "nothing runs"
cause_text layout NotWaiting = codes "not waiting"
cause_text layout (Next k) = codes "next" ++ named layout k
cause_text layout NotEnded = codes "not ended"

-- that all is legal; or the line, the number of the event there, counted from 1 over all events, and its cause
abbrev pub verdict_head : List ℕ → Layout → ℕ → Option Violation → List ℕ
verdict_head word layout count None = line (codes "legal")
verdict_head word layout count (Some violation) =
    line (codes "not legal") ++ count_line (codes "line") violation.line ++ count_line word (capped (count + 1))
    ++ line (codes "cause " ++ cause_text layout violation.cause)

abbrev pub verdict_text : {A E : Type 0} → Rules A E → Verdict E → List ℕ
verdict_text rules v =
    verdict_head rules.word v.layout (length v.events) v.violation ++ rules.counts v.events ++ row_text v.layout (codes "left") (rules.left v.events)

abbrev pub verdict_of : {E : Type 0} → Layout → List E → Option Violation → Verdict E
verdict_of layout events violation = record { layout = layout; events = events; violation = violation }

-- what was found is what the verdict says
pub record SaysOf {A E : Type 0} (rules : Rules A E) (v : Verdict E) (finding : Finding) : Type 0 where
  pub text_is : finding.text.items ≡ verdict_text rules v
  pub violation_is : finding.violation ≡ v.violation
  pub legal_is : finding.is_legal ≡ is_none v.violation
  pub left_is : finding.left ≡ length (rules.left v.events)

-- and it is the verdict of the text
pub record Finds {A E : Type 0} (gives : Lines A) (rules : Rules A E) (text : List ℕ) (finding : Finding) : Type 0 where
  pub verdict : Verdict E
  pub has : HasVerdict gives rules text (Ok verdict)
  pub says : SaysOf rules verdict finding
