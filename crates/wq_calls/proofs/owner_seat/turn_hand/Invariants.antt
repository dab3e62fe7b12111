use Rattle.wq_calls.specs.Hands.{TurnsHands}
use Rattle.wq_calls.proofs.owner_seat.turn_hand.Given as goal

abbrev pub invariant-loop : goal.invariant-loop
invariant-loop g l = TurnsHands l.counter l.fn.chair l.chair
