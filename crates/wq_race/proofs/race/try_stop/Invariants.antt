use Rattle.wq_race.proofs.Queueing.{IsInVain}
use Rattle.wq_race.proofs.race.try_stop.Given as goal

-- each try was in vain, and of the stop item
abbrev pub invariant-loop : goal.invariant-loop
invariant-loop l = IsInVain l.counter l.fn.program l.program
