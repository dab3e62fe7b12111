use Rattle.std.proofs.Common.{◌≡◌, subst}
use Rattle.wq_value_pool.specs.Known.{PoolState}
use Rattle.wq_value_pool.specs.ValueState.{ValueWorkerState}
use Rattle.wq_value_pool.specs.Finished.{BeginAsHandedIn}
use Rattle.example_log.specs.Text.{Line, WriterState}
use Rattle.example_log.specs.Writing.{WritesInStep}
use Rattle.example_log.proofs.logs.finish.Goals as goal

pub returns-in-Ok-clause-begins : goal.returns-in-Ok-clause-begins
returns-in-Ok-clause-begins g c =
    subst (λ (p : PoolState (ValueWorkerState Line WriterState)). BeginAsHandedIn (λ w. w.worker) WritesInStep (λ b. b.book)
    (λ w b. b.brought ≡ w.brought) p.states c.in-Ok.all.items)
    c.loop.invariant c.in-Ok.ensures.begins
