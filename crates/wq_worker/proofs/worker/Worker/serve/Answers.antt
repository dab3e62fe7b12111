use Rattle.wq_worker.proofs.Common.{stays}
use Rattle.wq_worker.proofs.Going.{log_more, serves_seen}
use Rattle.wq_worker.proofs.worker.Worker.serve.Goals as goal

pub returns-clause-log_grows : goal.returns-clause-log_grows
returns-clause-log_grows g c =
    let w = g.W.Work in let a = c.args.self.now in let b = c.serve.new.station in let e = c.serve.ensures in
    log_more a.layout b.layout a.seen b.seen (w.log a.work) (w.log b.work) c.logged.ensures.log c.logged-2.ensures.log e.same.layout_is
    (serves_seen w.may stays a b e.serves)
