use Rattle.wq_delay.proofs.Common.{map, entry_of}
use Rattle.wq_delay.proofs.Looking.{steps_left}
use Rattle.wq_delay.proofs.Finding.{Finding}
use Rattle.wq_delay.proofs.timetable.find.Given as goal

abbrev pub invariant-loop-item : goal.invariant-loop-item
invariant-loop-item l = Finding l.places l.tick l.now l.after l.head (map entry_of l.found.items) l.item

abbrev pub decreases-loop-item : goal.decreases-loop-item
decreases-loop-item l = steps_left l.places l.head l.item
