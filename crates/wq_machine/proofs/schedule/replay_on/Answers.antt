use Rattle.std.proofs.Common.{arith}
use Rattle.wq_core.specs.declared.step.Seat.TheVariants.{Sender}
use Rattle.wq_core.specs.declared.step.Step.TheVariants.{Hold}
use Rattle.wq_machine.proofs.Schedules.{leads_more, stops_at}
use Rattle.wq_machine.proofs.schedule.replay_on.Goals as goal

pub loop-at-preserved : goal.loop-at-preserved
loop-at-preserved c =
    rw c.in-Ok.ensures.after
    (leads_more c.args.turns.now c.loop-at.at (Sender 0, Hold 0) _ c.loop-at.core (omega arith) c.loop-at.invariant c.in-Ok.ensures.made)

pub returns-in-Err-clause-stops : goal.returns-in-Err-clause-stops
returns-in-Err-clause-stops c =
    rw c.in-Err.ensures.unchanged
    (stops_at c.args.turns.now c.loop-at.at (Sender 0, Hold 0) _ c.loop-at.core c.in-Err.why (omega arith) c.loop-at.invariant c.in-Err.ensures.refused)
