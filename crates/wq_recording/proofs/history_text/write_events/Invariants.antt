use Rattle.std.proofs.Common.{◌≡◌, ◌++◌, take, string_bytes}
use Rattle.wq_recording.specs.HistoryText.{event_lines}
use Rattle.wq_recording.proofs.history_text.write_events.Given as goal

abbrev pub invariant-loop-event : goal.invariant-loop-event
invariant-loop-event l = string_bytes l.out ≡ string_bytes l.fn.out ++ event_lines l.layout (take l.event-index l.history)
