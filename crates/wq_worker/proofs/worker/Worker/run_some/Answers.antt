use Rattle.wq_worker.proofs.Common.{stays}
use Rattle.wq_worker.proofs.Going.{log_more, some_seen}
use Rattle.wq_worker.proofs.Rows.{some_closed, some_shut}
use Rattle.wq_worker.proofs.worker.Worker.run_some.Goals as goal

pub returns-clause-closed : goal.returns-clause-closed
returns-clause-closed g c =
    let run = c.run_some-ended in some_closed g.W.Work.may stays c.args.limit run.result c.args.self.now run.new.station run.ensures.runs

pub returns-clause-shut : goal.returns-clause-shut
returns-clause-shut g c =
    let run = c.run_some-ended in some_shut g.W.Work.may stays c.args.limit run.result c.args.self.now run.new.station run.ensures.runs

pub returns-clause-log_grows : goal.returns-clause-log_grows
returns-clause-log_grows g c =
    let w = g.W.Work in let a = c.args.self.now in let b = c.run_some-ended.new.station in let e = c.run_some-ended.ensures in
    log_more a.layout b.layout a.seen b.seen (w.log a.work) (w.log b.work) c.logged.ensures.log c.logged-2.ensures.log e.same.layout_is
    (some_seen w.may stays c.args.limit c.run_some-ended.result a b e.runs)
