use Rattle.std.proofs.Common.{◌≡◌, drop, string_bytes}
use Rattle.wq_meaning.proofs.ScheduleLines.{Continues}
use Rattle.wq_meaning.proofs.schedule_output.write_output.Given as goal

abbrev pub invariant-loop-seat : goal.invariant-loop-seat
invariant-loop-seat l = record {
  same : l.core.layout ≡ l.schedule.layout;
  told : Continues l.schedule.layout l.schedule.turns.items l.core (drop l.seat-index l.schedule.turns.items) (string_bytes l.out);
}
