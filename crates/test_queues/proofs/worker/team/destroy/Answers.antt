use Rattle.wq_worker.specs.Destroy.{Destroys}
use Rattle.test_queues.proofs.worker.team.destroy.Goals as goal

pub returns : goal.returns
returns g c =
    let d : Destroys _ _ c.args.limit c.args.worker c.expect.result.0 c.expect.result.1 = rw c.expect.ensures at c.destroy.ensures.outcome in d.queue_is
