-- What a checker reports of a history.
use Rattle.std.specs.Prelude.{◌==◌, ◌&&◌, List, length, count_by}
use Rattle.wq_words.specs.declared.event.Event.{Event}
use Rattle.wq_words.specs.History.{accepted, ended, closed}
use Rattle.wq_words.specs.Counting.{capped, is_chain, is_busy, is_refusal}
use Rattle.wq_check.specs.declared.counts.Counts.{Counts}
use Rattle.wq_check.specs.declared.counts.Report.{Report}
use Rattle.wq_check.specs.Left.{left, most_waiting}

abbrev pub event_counts : List Event → Counts
event_counts h = record {
  events = capped (length h);
  accepted = capped (length (accepted h));
  chained = capped (count_by is_chain h);
  executed = capped (length (ended h));
  busy = capped (count_by is_busy h);
  refused = capped (count_by is_refusal h);
  most_waiting = most_waiting h;
}

abbrev pub report_of : List Event → Report
report_of h = record {
  counts = event_counts h;
  left = length (left h);
  closed = closed h;
  complete = closed h && (length (ended h) == length (accepted h));
}
