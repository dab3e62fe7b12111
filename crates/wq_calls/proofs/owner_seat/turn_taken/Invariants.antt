use Rattle.wq_calls.proofs.Common.{◌-◌, number_count, LearnsOrStays, Stands, OnlySees, kept_batch}
use Rattle.wq_calls.proofs.TurnedHands.{TurningSlots}
use Rattle.wq_calls.proofs.owner_seat.turn_taken.Given as goal

abbrev pub invariant-loop-next : goal.invariant-loop-next
invariant-loop-next g l = record {
  learns : LearnsOrStays 0 l.fn.chair l.chair;
  follows : OnlySees l.fn.chair.first.part l.chair.first.part;
  stands : Stands l.chair.first.part;
  turns : TurningSlots (kept_batch l.fn.chair.first.part.stage) l.next l.row l.fn.chair l.chair;
}

abbrev pub decreases-loop-next : goal.decreases-loop-next
decreases-loop-next g l = number_count l.chair.first.part.layout - l.row.count
