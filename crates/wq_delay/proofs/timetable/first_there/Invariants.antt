use Rattle.wq_delay.proofs.Common.{◌≡◌, [], take, filter, stands}
use Rattle.wq_delay.proofs.timetable.first_there.Given as goal

abbrev pub invariant-loop-at : goal.invariant-loop-at
invariant-loop-at l = filter (stands l.places) (take l.front l.row) ≡ [] → filter (stands l.places) (take l.at l.row) ≡ []
