-- What a log has in the end.
use Rattle.std.specs.Prelude.{◌≡◌, List, Option, Some, map, take}
use Rattle.wq_words.specs.declared.layout.Layout.{Layout}
use Rattle.wq_words.specs.declared.event.Event.{Event}
use Rattle.wq_words.specs.History.{accepted}
use Rattle.wq_words.specs.Legal.{IsComplete}
use Rattle.wq_words.specs.Headline.{KeepsHeadline}
use Rattle.wq_words.specs.Valued.{IsLegalWith, with_values}
use Rattle.wq_values.specs.OwnBrought.{own_brought}
use Rattle.wq_value_worker.specs.Returned.{pairs_of}
use Rattle.example_log.specs.declared.message.Log.{Log}
use Rattle.example_log.specs.declared.message.Message.{Message}
use Rattle.example_log.specs.declared.ending.Written.{Written}
use Rattle.example_log.specs.Text.{Line, text_of}
use Rattle.example_log.specs.Sent.{lines_to, OnlyStops}
use Rattle.wq_value_pool.specs.Quiet.{IsQuiet}

-- A legal and complete history of the log's queue, with the lines that its events carry. The text is the lines of the items that
-- were accepted, in order; each client's queueings brought the lines of those of its messages that it sent, in order; of the third
-- sender no other number than the stop item was accepted, which brings no line; and of the log's worker nothing.
pub record HasLines (log : Log) (layout : Layout) (h : List Event) (brought : List (Option Line))
    (first second : List Message) (written : Written) : Type 0 where
  pub legal : IsLegalWith layout (with_values h brought)
  pub complete : IsComplete h
  pub headline : KeepsHeadline h
  pub text_is : written.text.items ≡ text_of (pairs_of (accepted h) brought)
  pub of_first : own_brought 0 h brought ≡ map Some (lines_to log (take written.of_first first))
  pub of_second : own_brought 1 h brought ≡ map Some (lines_to log (take written.of_second second))
  pub of_third : OnlyStops layout 2 h
  pub of_worker : IsQuiet 3 h
