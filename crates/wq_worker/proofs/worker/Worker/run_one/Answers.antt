use Rattle.wq_worker.proofs.Common.{rules, ◌≡◌, None, running, Nothing, stays, runs_none}
use Rattle.wq_worker.proofs.Going.{log_more, same_more, runs_by_seen}
use Rattle.wq_worker.proofs.Rows.{worker_on, moves_same, runs_by_same, runs_by_legal, runs_by_open, runs_by_unclosed, runs_by_closed, runs_by_shut, runs_by_running}
use Rattle.wq_worker.proofs.Step.{runs_fresh, after_stays}
use Rattle.wq_worker.proofs.worker.Worker.run_one.Goals as goal

pub returns-clause-runs : goal.returns-clause-runs
returns-clause-runs g c =
    let a = c.args.self.now in let may = g.W.Work.may in let none : running a.seen ≡ None = search rules in
    runs_fresh may stays (after_stays may) c.in-Some-start.number c.finish-2.result a c.start.new.self c.finish-2.new.self c.in-Some-start.ensures
    (runs_none a.seen none) c.finish-2.ensures.runs

pub returns-clause-same : goal.returns-clause-same
returns-clause-same g c =
    worker_on c.args.self.now c.start.new.self c.finish-2.new.self (moves_same _ 0 c.args.self.now c.start.new.self c.in-Some-start.ensures.moves)
    (runs_by_same g.W.Work.may stays c.finish-2.result c.start.new.self c.finish-2.new.self c.finish-2.ensures.runs)

pub returns-clause-legal : goal.returns-clause-legal
returns-clause-legal g c = runs_by_legal g.W.Work.may stays c.finish-2.result c.start.new.self c.finish-2.new.self c.finish-2.ensures.runs

pub returns-in_default-start-clause-runs : goal.returns-in_default-start-clause-runs
returns-in_default-start-clause-runs g c =
    let none : running c.args.self.now.seen ≡ None = search rules in let e = c.in_default-start.ensures in
    (runs_none c.args.self.now.seen none, e.0, e.1, e.2)

pub returns-in_default-start-clause-same : goal.returns-in_default-start-clause-same
returns-in_default-start-clause-same g c = moves_same _ 0 c.args.self.now c.start.new.self c.in_default-start.ensures.2

pub returns-in_default-start-clause-legal : goal.returns-in_default-start-clause-legal
returns-in_default-start-clause-legal g c = c.in_default-start.ensures.2.legal

pub returns-in-Some-clause-same : goal.returns-in-Some-clause-same
returns-in-Some-clause-same g c = runs_by_same g.W.Work.may stays c.finish.result c.args.self.now c.finish.new.self c.finish.ensures.runs

pub returns-in-Some-clause-legal : goal.returns-in-Some-clause-legal
returns-in-Some-clause-legal g c = runs_by_legal g.W.Work.may stays c.finish.result c.args.self.now c.finish.new.self c.finish.ensures.runs

pub returns-clause-none : goal.returns-clause-none
returns-clause-none g c is = absurd (c.finish-2.ensures.some is)

pub returns-in_default-start-clause-none : goal.returns-in_default-start-clause-none
returns-in_default-start-clause-none g c is = c.in_default-start.ensures.3

pub returns-in-Some-clause-none : goal.returns-in-Some-clause-none
returns-in-Some-clause-none g c is = absurd (c.finish.ensures.some is)

pub returns-clause-open : goal.returns-clause-open
returns-clause-open g c = runs_by_open g.W.Work.may stays c.finish-2.result c.args.self.now c.finish-2.new.self (returns-clause-runs g c)

pub returns-clause-unclosed : goal.returns-clause-unclosed
returns-clause-unclosed g c = runs_by_unclosed g.W.Work.may stays c.finish-2.result c.args.self.now c.finish-2.new.self (returns-clause-runs g c)

pub returns-in_default-start-clause-open : goal.returns-in_default-start-clause-open
returns-in_default-start-clause-open g c =
    runs_by_open g.W.Work.may stays Nothing c.args.self.now c.start.new.self (returns-in_default-start-clause-runs g c)

pub returns-in_default-start-clause-unclosed : goal.returns-in_default-start-clause-unclosed
returns-in_default-start-clause-unclosed g c =
    runs_by_unclosed g.W.Work.may stays Nothing c.args.self.now c.start.new.self (returns-in_default-start-clause-runs g c)

pub returns-in-Some-clause-open : goal.returns-in-Some-clause-open
returns-in-Some-clause-open g c =
    runs_by_open g.W.Work.may stays c.finish.result c.args.self.now c.finish.new.self c.finish.ensures.runs

pub returns-in-Some-clause-unclosed : goal.returns-in-Some-clause-unclosed
returns-in-Some-clause-unclosed g c =
    runs_by_unclosed g.W.Work.may stays c.finish.result c.args.self.now c.finish.new.self c.finish.ensures.runs

pub returns-clause-closed : goal.returns-clause-closed
returns-clause-closed g c = runs_by_closed g.W.Work.may stays c.finish-2.result c.args.self.now c.finish-2.new.self (returns-clause-runs g c)

pub returns-clause-shut : goal.returns-clause-shut
returns-clause-shut g c = runs_by_shut g.W.Work.may stays c.finish-2.result c.args.self.now c.finish-2.new.self (returns-clause-runs g c)

pub returns-in_default-start-clause-closed : goal.returns-in_default-start-clause-closed
returns-in_default-start-clause-closed g c =
    runs_by_closed g.W.Work.may stays Nothing c.args.self.now c.start.new.self (returns-in_default-start-clause-runs g c)

pub returns-in_default-start-clause-shut : goal.returns-in_default-start-clause-shut
returns-in_default-start-clause-shut g c =
    runs_by_shut g.W.Work.may stays Nothing c.args.self.now c.start.new.self (returns-in_default-start-clause-runs g c)

pub returns-in-Some-clause-closed : goal.returns-in-Some-clause-closed
returns-in-Some-clause-closed g c =
    runs_by_closed g.W.Work.may stays c.finish.result c.args.self.now c.finish.new.self c.finish.ensures.runs

pub returns-in-Some-clause-shut : goal.returns-in-Some-clause-shut
returns-in-Some-clause-shut g c =
    runs_by_shut g.W.Work.may stays c.finish.result c.args.self.now c.finish.new.self c.finish.ensures.runs

pub returns-clause-log_grows : goal.returns-clause-log_grows
returns-clause-log_grows g c =
    let a = c.args.self.now in let b = c.finish-2.new.self in
    log_more a.layout b.layout a.seen b.seen (g.W.Work.log a.work) (g.W.Work.log b.work) c.logged.ensures.log c.finish-2.ensures.logged
    (returns-clause-same g c).layout_is (runs_by_seen g.W.Work.may stays c.finish-2.result a b (returns-clause-runs g c))

pub returns-in_default-start-clause-log_grows : goal.returns-in_default-start-clause-log_grows
returns-in_default-start-clause-log_grows g c = same_more g.W.Work.log c.args.self.now.work c.start.new.self.work c.in_default-start.ensures.1

pub returns-in-Some-clause-log_grows : goal.returns-in-Some-clause-log_grows
returns-in-Some-clause-log_grows g c =
    let a = c.args.self.now in let b = c.finish.new.self in
    log_more a.layout b.layout a.seen b.seen (g.W.Work.log a.work) (g.W.Work.log b.work) c.logged.ensures.log c.finish.ensures.logged
    (returns-in-Some-clause-same g c).layout_is (runs_by_seen g.W.Work.may stays c.finish.result a b c.finish.ensures.runs)

pub returns-clause-running : goal.returns-clause-running
returns-clause-running g c =
    runs_by_running g.W.Work.may stays c.finish-2.result c.args.self.now c.finish-2.new.self
    (returns-clause-runs g c)

pub returns-in_default-start-clause-running : goal.returns-in_default-start-clause-running
returns-in_default-start-clause-running g c = c.in_default-start.ensures.3.0

pub returns-in-Some-clause-running : goal.returns-in-Some-clause-running
returns-in-Some-clause-running g c =
    runs_by_running g.W.Work.may stays c.finish.result c.args.self.now c.finish.new.self
    c.finish.ensures.runs
