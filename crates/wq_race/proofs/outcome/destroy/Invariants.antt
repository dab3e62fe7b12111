use Rattle.wq_race.proofs.Serving.{HasGoneOn}
use Rattle.wq_race.proofs.outcome.destroy.Given as goal

abbrev pub invariant-loop : goal.invariant-loop
invariant-loop g l = HasGoneOn l.fn.worker l.worker
