-- What the commands of a script mean: one case a command.
use Rattle.std.specs.Prelude.{ℕ, ◌+◌, List, [], ◌∷◌, ◌++◌, length, Option, Some, None, replicate, slice_set, nat_lt, if◌then◌else◌, codes}
use Rattle.arrayvec.specs.ArrayVec.{ArrayVec}
use Rattle.wq_words.specs.declared.layout.Layout.{Layout}
use Rattle.wq_words.specs.declared.event.Event.{Event}
use Rattle.wq_words.specs.Numbers.{barrier_number, stop_number}
use Rattle.wq_words.specs.History.{pending, closed}
use Rattle.wq_text.specs.declared.command.Command.{Command}
use Rattle.wq_text.specs.declared.command.Command.TheVariants as command
use Rattle.wq_meaning.specs.Queueing.{queue_events, queue_answer, close_events, close_answer}
use Rattle.wq_meaning.specs.Execution.{no_follow, after_executions, ends_at, left_in, begin_drain, end_drain, ended_since}
use Rattle.wq_words.specs.DelayTable.{DelayTable, on_table, table_without}
use Rattle.wq_meaning.specs.Arming.{arm_events, arm_table, arm_answer, cancel_events, modify_events, modify_table, modify_answer}
use Rattle.wq_meaning.specs.Arming.{posted_items, advance_events, advance_table}
use Rattle.wq_meaning.specs.Answer.{answer_text, armed_text, modified_text, close_text}
use Rattle.wq_meaning.specs.Report.{line, counts_of, report_text}
use Rattle.wq_meaning.specs.Names.{row_text, advance_word, left_text}

-- the events so far, the delay table, and for each item the list that its function answers
pub record ScriptState : Type 0 where
  pub history : List Event
  pub table : DelayTable
  pub follows : List (ArrayVec ℕ)

abbrev pub opening_state : Layout → ScriptState
opening_state layout = record { history = []; table = record { entries = []; tick = 0; next = 0 }; follows = replicate layout.items no_follow }

-- sender s of the script is sender s of the queue; the worker's and the delay table's come behind them
abbrev pub worker : Layout → ℕ
worker layout = layout.senders

abbrev pub delayer : Layout → ℕ
delayer layout = layout.senders + 1

-- the history after at most so many executions, up to one of the last number
abbrev pub after_row : Layout → ScriptState → ℕ → Option ℕ → List Event
after_row layout s limit last = after_executions (worker layout) s.follows (ends_at last) limit s.history

-- the history after a drain of at most so many executions, which ends where nothing is left
abbrev pub after_drain : Layout → ScriptState → ℕ → List Event
after_drain layout s limit = end_drain (after_row layout (record s { history = begin_drain s.history }) limit None)

-- the state after a command
abbrev pub state_after : Layout → ScriptState → Command → ScriptState
state_after layout s (command.Queue sender item) = record s { history = s.history ++ queue_events sender item s.history }
state_after layout s (command.Run limit) = record s { history = after_row layout s limit (Some (stop_number layout)) }
state_after layout s command.Close = record s { history = s.history ++ close_events s.history }
state_after layout s command.Report = s
state_after layout s (command.Follow item follow) = record s { follows = slice_set s.follows item follow }
state_after layout s (command.Flush sender barrier) = record s { history = s.history ++ queue_events sender (barrier_number layout barrier) s.history }
state_after layout s (command.Done sender barrier) = s
state_after layout s (command.Stop sender) = record s { history = s.history ++ queue_events sender (stop_number layout) s.history }
state_after layout s (command.Drain limit) = if closed s.history then record s { history = after_row layout s limit None } else s
state_after layout s (command.DrainAndResume limit) = record s { history = after_drain layout s limit }
state_after layout s (command.Check item) = s
state_after layout s (command.Arm item delay) = record s {
  history = s.history ++ arm_events (delayer layout) item delay s.history s.table;
  table = arm_table item delay s.history s.table;
}
state_after layout s (command.Cancel item) = record s {
  history = s.history ++ cancel_events (delayer layout) item s.table;
  table = table_without item s.table;
}
state_after layout s (command.Modify item delay) = record s {
  history = s.history ++ modify_events (delayer layout) item delay s.history s.table;
  table = modify_table item delay s.history s.table;
}
state_after layout s (command.Advance tick) = if nat_lt tick s.table.tick then s else record s {
  history = s.history ++ advance_events (delayer layout) tick s.history s.table;
  table = advance_table tick s.history s.table;
}

-- what a drain executed, and what it left
abbrev pub drain_lines : Layout → ScriptState → ScriptState → List ℕ
drain_lines layout s t = row_text layout (codes "ran") (ended_since s.history t.history) ++ line (left_text (left_in t.history))

-- the lines of a command, of the state s before it and the state t after it
abbrev pub lines : Layout → ScriptState → ScriptState → Command → List ℕ
lines layout s t (command.Queue sender item) = line (answer_text (queue_answer item s.history))
lines layout s t (command.Run limit) = row_text layout (codes "ran") (ended_since s.history t.history)
lines layout s t command.Close = line (close_text (close_answer s.history))
lines layout s t command.Report = report_text (counts_of (length t.table.entries) t.history)
lines layout s t (command.Follow item follow) = []
lines layout s t (command.Flush sender barrier) = line (answer_text (queue_answer (barrier_number layout barrier) s.history))
lines layout s t (command.Done sender barrier) = line (if pending t.history (barrier_number layout barrier) then codes "false" else codes "true")
lines layout s t (command.Stop sender) = line (answer_text (queue_answer (stop_number layout) s.history))
lines layout s t (command.Drain limit) =
    if closed s.history then drain_lines layout s t else line (codes "not closed")
lines layout s t (command.DrainAndResume limit) = drain_lines layout s t
lines layout s t (command.Check item) = line (if pending t.history item then codes "pending" else codes "idle")
lines layout s t (command.Arm item delay) = line (armed_text (arm_answer item delay s.history s.table))
lines layout s t (command.Cancel item) = line (if on_table item s.table.entries then codes "cancelled" else codes "not on table")
lines layout s t (command.Modify item delay) = line (modified_text (modify_answer item delay s.history s.table))
lines layout s t (command.Advance tick) =
    if nat_lt tick s.table.tick then line (codes "false backwards")
    else row_text layout (advance_word (closed s.history) (posted_items tick s.history s.table)) (posted_items tick s.history s.table)

-- the whole output, from a state on
unfoldable pub output_from : Layout → ScriptState → List Command → List ℕ
output_from layout s [] = []
output_from layout s (c ∷ cs) = lines layout s (state_after layout s c) c ++ output_from layout (state_after layout s c) cs

abbrev pub output_of : Layout → List Command → List ℕ
output_of layout commands = output_from layout (opening_state layout) commands
