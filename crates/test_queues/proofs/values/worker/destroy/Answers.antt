use Rattle.wq_worker.specs.Destroy.{DestroysBy}
use Rattle.test_queues.proofs.values.worker.destroy.Goals as goal

pub returns : goal.returns
returns g c =
    let d : DestroysBy _ _ _ c.args.limit c.args.worker.worker c.expect.result.0 c.expect.result.1.book =
    rw c.expect.ensures at c.destroy.ensures.outcome in d.queue_is
