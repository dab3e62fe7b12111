use Rattle.std.proofs.Common.{◌≡◌, ℕ, List, drop}
use Rattle.wq_meaning.proofs.ScheduleLines.{Continues}
use Rattle.wq_meaning.proofs.schedule_history.replayed.Given as goal

abbrev pub invariant-loop-seat : goal.invariant-loop-seat
invariant-loop-seat l = record {
  same : l.core.layout ≡ l.schedule.layout;
  told : (out : List ℕ) × Continues l.schedule.layout l.schedule.turns.items l.core (drop l.seat-index l.schedule.turns.items) out;
}
