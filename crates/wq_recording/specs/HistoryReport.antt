-- What is said of a history.
use Rattle.std.specs.Prelude.{◌≡◌, ℕ, List, [], ◌∷◌, ◌++◌, flat_map, Some, None, if◌then◌else◌, codes}
use Rattle.wq_words.specs.declared.event.Event.{Event}
use Rattle.wq_words.specs.declared.layout.Layout.{Layout}
use Rattle.wq_words.specs.Legal.{IsLegal}
use Rattle.wq_check.specs.declared.cause.EventError.TheVariants.{NotAllowed}
use Rattle.wq_check.specs.declared.counts.Report.{Report}
use Rattle.wq_check.specs.Causes.{HasEventError}
use Rattle.wq_check.specs.Left.{left}
use Rattle.wq_check.specs.Report.{report_of}
use Rattle.wq_meaning.specs.Report.{line, count_line}
use Rattle.wq_recording.specs.declared.line_events.LineEvents.{LineEvents}
use Rattle.wq_recording.specs.History.{events_of_line}
use Rattle.wq_recording.specs.Verdict.{Rules}

-- the lines of what is counted
abbrev pub count_lines : List (List ℕ × ℕ) → List ℕ
count_lines counts = flat_map (λ (c : List ℕ × ℕ). count_line c.0 c.1) counts

abbrev pub event_count_lines : Report → List ℕ
event_count_lines r = count_lines (
    (codes "events", r.counts.events) ∷ (codes "accepted", r.counts.accepted) ∷ (codes "chained", r.counts.chained)
    ∷ (codes "executed", r.counts.executed) ∷ (codes "busy", r.counts.busy) ∷ (codes "refused", r.counts.refused)
    ∷ (codes "waiting", r.left) ∷ (codes "most waiting", r.counts.most_waiting) ∷ [])

-- and behind them whether it is closed, and whether it is complete
abbrev pub history_counts : Report → List ℕ
history_counts r =
    event_count_lines r ++ line (if r.closed then codes "closed yes" else codes "closed no")
    ++ line (if r.complete then codes "complete yes" else codes "complete no")

abbrev pub history_rules : Rules LineEvents Event
history_rules = record {
  tells = events_of_line;
  IsLegal = IsLegal;
  HasCause = λ layout h e cause. HasEventError layout h e (NotAllowed cause);
  word = codes "event";
  counts = λ h. history_counts (report_of h);
  left = left;
}

-- no events are legal
pub history_begins : (layout : Layout) → IsLegal layout []
history_begins layout place e here = absurd (never here)
  where
    never : {e : Event} → None ≡ Some e → ⊥
    never e = cc
