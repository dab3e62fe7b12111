use Rattle.wq_delay.proofs.Common.{List, length, Entry, waiting, IsWheel}
use Rattle.wq_delay.proofs.Looking.{steps_left}
use Rattle.wq_delay.proofs.Earliest.{Passing}
use Rattle.wq_delay.proofs.timetable.earliest_in.Given as goal

abbrev pub invariant-loop-item : goal.invariant-loop-item
invariant-loop-item l =
    (es : List Entry) → IsWheel (length l.places) l.rings.next.items l.rings.previous.items (waiting l.places es)
    → Passing l.places es l.head l.earliest l.item

abbrev pub decreases-loop-item : goal.decreases-loop-item
decreases-loop-item l = steps_left l.places l.head l.item
