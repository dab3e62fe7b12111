use Rattle.wq_live.proofs.Common.{[], Sees}
use Rattle.wq_live.proofs.sender.Sender.flush.Given as goal

abbrev pub invariant-loop : goal.invariant-loop
invariant-loop g l = (goal.iterator-loop g).can_next l.iterator' × (goal.iterator-loop g).is_finite l.iterator' × Sees [] 0 l.initial.self l.self
