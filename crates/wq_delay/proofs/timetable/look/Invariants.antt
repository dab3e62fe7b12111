use Rattle.wq_delay.proofs.Common.{vec_capacity, remaining, RowHasRoom, PutsBehind}
use Rattle.wq_delay.proofs.Looking.{Looking, steps_left}
use Rattle.wq_delay.proofs.timetable.look.Given as goal

abbrev pub invariant-loop-item : goal.invariant-loop-item
invariant-loop-item l =
    Looking l.places l.rings.next.items l.rings.previous.items (remaining l.places l.initial.row.items) (remaining l.places l.row.items) l.head l.now l.item
    × RowHasRoom l.places l.row.items (vec_capacity l.row) × PutsBehind l.places l.initial.row.items l.row.items

abbrev pub decreases-loop-item : goal.decreases-loop-item
decreases-loop-item l = steps_left l.places l.head l.item
