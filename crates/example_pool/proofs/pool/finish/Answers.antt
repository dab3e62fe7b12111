use Rattle.std.proofs.Common.{subst}
use Rattle.wq_pool.specs.Known.{PoolState}
use Rattle.wq_pool.specs.Finished.{BeginAsHandedIn}
use Rattle.wq_worker.specs.State.{WorkerState}
use Rattle.example_pool.specs.declared.work.RunList.{RunList}
use Rattle.example_pool.specs.RunList.{RunsInStep}
use Rattle.example_pool.proofs.pool.finish.Goals as goal

pub returns-in-Ok-clause-begins : goal.returns-in-Ok-clause-begins
returns-in-Ok-clause-begins g c =
    subst (λ (p : PoolState (WorkerState RunList)). BeginAsHandedIn (λ w. w) RunsInStep (λ b. b) (λ w b. Unit {0}) p.states c.in-Ok.all.items)
    c.loop.invariant c.in-Ok.ensures.begins
