use Rattle.wq_calls.proofs.Turning.{turns_on}
use Rattle.wq_calls.proofs.owner_seat.turn_hand.Goals as goal

pub loop-preserved : goal.loop-preserved
loop-preserved g c = turns_on c.loop.counter c.args.chair.now c.loop.chair c.turn_hand.new.self c.loop.invariant c.turn_hand.ensures.turned
