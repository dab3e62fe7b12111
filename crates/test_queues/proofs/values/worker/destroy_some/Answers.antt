use Rattle.wq_worker.specs.Destroy.{LeavesUnfinishedBy}
use Rattle.test_queues.proofs.values.worker.destroy_some.Goals as goal

pub returns : goal.returns
returns g c =
    let d : LeavesUnfinishedBy _ _ c.args.limit c.args.worker.worker c.in-Err.unfinished.worker.worker c.in-Err.unfinished.left = c.in-Err.ensures.outcome in
    d.same.queue_is
