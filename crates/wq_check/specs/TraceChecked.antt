-- What a checker keeps of the trace that it was told.
use Rattle.std.specs.Prelude.{◌≡◌, ℕ, ◌<◌, ◌==◌, List, length, get_or, count_by, Option, MatchOption}
use Rattle.wq_words.specs.declared.layout.Layout.{Layout}
use Rattle.wq_check.specs.declared.cause.Cause.{Cause}
use Rattle.wq_check.specs.declared.mark.Mark.{Mark}
use Rattle.wq_check.specs.declared.mark_counts.MarkCounts.{MarkCounts}
use Rattle.wq_check.specs.Trace.{unstarted, executing, MayShow, IsLegalTrace}
use Rattle.wq_check.specs.MarkCauses.{HasMarkCause}
use Rattle.wq_check.specs.TraceReport.{mark_counts}

-- which items were queued and not started, oldest first, how often each stands among them, and the one whose function runs
pub record SeenState : Type 0 where
  pub layout : Layout
  pub times : List ℕ
  pub waiting : List ℕ
  pub running : Option ℕ

abbrev pub seen_state : Layout → List ℕ → List ℕ → Option ℕ → SeenState
seen_state layout times waiting running = record { layout = layout; times = times; waiting = waiting; running = running }

-- the queue looks so after the legal trace t
pub record LooksAfter (q : SeenState) (t : List Mark) : Type 0 where
  pub legal : IsLegalTrace q.layout t
  pub has_times : length q.times ≡ q.layout.items
  pub times_are : (k : ℕ) → k < q.layout.items → get_or q.times k 0 ≡ count_by (λ j. j == k) q.waiting
  pub waiting_is : q.waiting ≡ unstarted t
  pub running_is : q.running ≡ executing t

-- the answer says whether the mark may be shown after each trace after which the queue looks so, and else the cause
abbrev pub JudgesMark : SeenState → Mark → Option Cause → Type 0
JudgesMark q m answer = (t : List Mark) → LooksAfter q t → MatchOption answer (MayShow t m) (HasMarkCause t m)

-- what a clause sees of a checker of traces: how the queue looks, and what was counted
pub record TraceCheckerState : Type 0 where
  pub queue : SeenState
  pub counts : MarkCounts

abbrev pub trace_checker_state : SeenState → MarkCounts → TraceCheckerState
trace_checker_state queue counts = record { queue = queue; counts = counts }

-- it was told the legal trace t
pub record IsAfterMarks (c : TraceCheckerState) (t : List Mark) : Type 0 where
  pub looks : LooksAfter c.queue t
  pub counted : c.counts ≡ mark_counts t
