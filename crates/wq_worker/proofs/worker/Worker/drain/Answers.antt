use Rattle.wq_worker.proofs.Common.{stays}
use Rattle.wq_worker.proofs.Going.{log_more, drains_seen}
use Rattle.wq_worker.proofs.worker.Worker.drain.Goals as goal

pub returns-clause-log_grows : goal.returns-clause-log_grows
returns-clause-log_grows g c =
    let w = g.W.Work in let a = c.args.self.now in let b = c.drain-drained.new.station in let e = c.drain-drained.ensures in
    log_more a.layout b.layout a.seen b.seen (w.log a.work) (w.log b.work) c.logged.ensures.log c.logged-2.ensures.log e.same.layout_is
    (drains_seen w.may stays c.args.limit c.drain-drained.result a b e.drains)
