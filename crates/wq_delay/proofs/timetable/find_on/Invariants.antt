use Rattle.wq_delay.proofs.Common.{map, AreFound, entry_of}
use Rattle.wq_delay.proofs.timetable.find_on.Given as goal

abbrev pub invariant-loop-after : goal.invariant-loop-after
invariant-loop-after l = AreFound l.places l.tick l.now l.after (map entry_of l.found.items)
