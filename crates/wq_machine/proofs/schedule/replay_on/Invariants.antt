use Rattle.wq_machine.proofs.Common.{take, Leads}
use Rattle.wq_machine.proofs.schedule.replay_on.Given as goal

abbrev pub invariant-loop-at : goal.invariant-loop-at
invariant-loop-at l = Leads l.initial.core (take l.at l.turns) l.core
