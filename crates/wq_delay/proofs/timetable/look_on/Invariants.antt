use Rattle.wq_delay.proofs.Common.{◌≡◌, vec_capacity, remaining, waiting, RowHasRoom, PutsBehind, AreEarliest}
use Rattle.wq_delay.proofs.Slots.{LookingOn}
use Rattle.wq_delay.proofs.timetable.look_on.Given as goal

abbrev pub invariant-loop-after : goal.invariant-loop-after
invariant-loop-after l =
    LookingOn l.places l.rings.next.items l.rings.previous.items (remaining l.places l.initial.row.items) (remaining l.places l.row.items) l.tick l.now l.after
    × RowHasRoom l.places l.row.items (vec_capacity l.row) × (l.looked ≡ l.after) × PutsBehind l.places l.initial.row.items l.row.items
    × AreEarliest l.earliest.items (waiting l.places (remaining l.places l.row.items))
