-- What a checker reports of a trace.
use Rattle.std.specs.Prelude.{List, length}
use Rattle.wq_check.specs.declared.mark.Mark.{Mark}
use Rattle.wq_check.specs.declared.mark_counts.MarkCounts.{MarkCounts}
use Rattle.wq_check.specs.declared.mark_counts.TraceReport.{TraceReport}
use Rattle.wq_check.specs.Trace.{queued, started, returned, unreturned, most_unstarted}
use Rattle.wq_words.specs.Counting.{capped}

abbrev pub mark_counts : List Mark → MarkCounts
mark_counts t = record {
  marks = capped (length t);
  queued = capped (length (queued t));
  started = capped (length (started t));
  ended = capped (length (returned t));
  most_waiting = most_unstarted t;
}

abbrev pub trace_report_of : List Mark → TraceReport
trace_report_of t = record { counts = mark_counts t; left = length (unreturned t) }
