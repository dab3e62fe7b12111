use Rattle.wq_value_worker.proofs.Common.{GivesBack, MayLeave}
use Rattle.wq_value_worker.proofs.Deals.{along_learnt, along_given}
use Rattle.wq_worker.proofs.Rows.{some_closed, some_shut}
use Rattle.wq_value_worker.proofs.ValueGoing.{pairs_log}
use Rattle.wq_worker.proofs.Going.{some_seen}
use Rattle.wq_value_worker.proofs.value_worker.ValueWorker.run_some.Goals as goal

pub returns-clause-learnt : goal.returns-clause-learnt
returns-clause-learnt g c =
    let w = g.W.ValueWork in
    along_learnt w.given w.may w.takes c.args.self.now c.run_some-ended.new.station c.legal.ensures.matches c.run_some-ended.ensures.deals

pub returns-clause-given : goal.returns-clause-given
returns-clause-given g c =
    let w = g.W.ValueWork in along_given w.given w.may w.takes c.args.self.now c.run_some-ended.new.station c.run_some-ended.ensures.deals

pub returns-clause-closed : goal.returns-clause-closed
returns-clause-closed g c =
    let w = g.W.ValueWork in
    some_closed (MayLeave w.may w.takes) (GivesBack w.takes) c.args.limit c.run_some-ended.result c.args.self.now.worker c.run_some-ended.new.station.worker
    c.run_some-ended.ensures.runs

pub returns-clause-shut : goal.returns-clause-shut
returns-clause-shut g c =
    let w = g.W.ValueWork in
    some_shut (MayLeave w.may w.takes) (GivesBack w.takes) c.args.limit c.run_some-ended.result c.args.self.now.worker c.run_some-ended.new.station.worker
    c.run_some-ended.ensures.runs

pub returns-clause-log_grows : goal.returns-clause-log_grows
returns-clause-log_grows g c =
    let w = g.W.ValueWork in let a = c.args.self.now in let b = c.run_some-ended.new.station in let e = c.run_some-ended.ensures in
    pairs_log a b (w.log a.worker.work) (w.log b.worker.work) c.logged.ensures.log c.logged-2.ensures.log
    (some_seen (MayLeave w.may w.takes) (GivesBack w.takes) c.args.limit c.run_some-ended.result a.worker b.worker e.runs) e.legal (returns-clause-learnt g c)
