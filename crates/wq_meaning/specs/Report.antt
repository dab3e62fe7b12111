-- The seven counts of a report, and how they read.
use Rattle.std.specs.Prelude.{ℕ, List, [], ◌∷◌, ◌++◌, length, count_by, codes}
use Rattle.std.specs.List.{flat_map}
use Rattle.std.specs.Fmt.{decimal}
use Rattle.wq_words.specs.declared.event.Event.{Event}
use Rattle.wq_words.specs.History.{accepted, ended}
use Rattle.wq_words.specs.Counting.{is_chain, is_busy, is_refusal}
use Rattle.wq_meaning.specs.Execution.{left_in}
use Rattle.wq_meaning.specs.declared.report.ReportCounts.{ReportCounts}

-- the counts of a history, where so many items stand on the delay table
abbrev pub counts_of : ℕ → List Event → ReportCounts
counts_of delayed h = record {
  accepted = length (accepted h);
  chained = count_by is_chain h;
  executed = length (ended h);
  busy = count_by is_busy h;
  refused = count_by is_refusal h;
  delayed = delayed;
  waiting = left_in h;
}

abbrev pub line : List ℕ → List ℕ
line text = text ++ 10 ∷ []

unfoldable pub count_line : List ℕ → ℕ → List ℕ
count_line word n = line (word ++ codes " " ++ decimal n)

abbrev pub report_text : ReportCounts → List ℕ
report_text counts =
    flat_map (λ (c : List ℕ × ℕ). count_line c.0 c.1) (
    (codes "accepted", counts.accepted) ∷ (codes "chained", counts.chained) ∷ (codes "executed", counts.executed)
    ∷ (codes "busy", counts.busy) ∷ (codes "refused", counts.refused) ∷ (codes "delayed", counts.delayed)
    ∷ (codes "waiting", counts.waiting) ∷ [])
