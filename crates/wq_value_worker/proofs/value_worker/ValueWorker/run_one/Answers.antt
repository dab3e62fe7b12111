use Rattle.wq_value_worker.proofs.Common.{rules, ◌≡◌, None, running, runs_none, learnt_on, Nothing, GivesBack, MayLeave, owner_in}
use Rattle.wq_value_worker.proofs.Returned.{run_on}
use Rattle.wq_value_worker.proofs.ValueGoing.{pairs_log}
use Rattle.wq_worker.proofs.Going.{same_more, runs_by_seen}
use Rattle.wq_worker.proofs.Rows.{runs_by_same, runs_by_legal, runs_by_open, runs_by_unclosed, runs_by_closed, runs_by_shut, runs_by_running}
use Rattle.wq_worker.proofs.Step.{runs_fresh}
use Rattle.wq_value_worker.proofs.ValueStep.{settles_by, settles_fresh}
use Rattle.wq_value_worker.proofs.Deals.{dealt_by_given}
use Rattle.wq_value_worker.proofs.value_worker.ValueWorker.run_one.Goals as goal

pub start-requires : goal.start-requires
start-requires g c =
    let h = c.args.self.now.worker.seen in let none : running h ≡ None = search rules in runs_none h none

pub returns-clause-runs : goal.returns-clause-runs
returns-clause-runs g c =
    let takes = g.W.ValueWork.takes in let may = g.W.ValueWork.may in
    let h = c.args.self.now.worker.seen in let none : running h ≡ None = search rules in
    runs_fresh (MayLeave may takes) (GivesBack takes) (run_on takes may) c.in-Some-start.number c.finish-2.result c.args.self.now.worker c.start.new.self.worker
    c.finish-2.new.self.worker c.in-Some-start.ensures.outcome.begins (runs_none h none) c.finish-2.ensures.runs

pub returns-clause-settles : goal.returns-clause-settles
returns-clause-settles g c =
    let given = g.W.ValueWork.given in let may = g.W.ValueWork.may in let takes = g.W.ValueWork.takes in
    let a = c.args.self.now in let m = c.start.new.self in let b = c.finish-2.new.self in let e = c.finish-2.ensures in
    settles_by given may takes c.finish-2.result a b e.some
    (settles_fresh given may takes c.in-Some-start.number a m b c.in-Some-start.ensures.outcome c.start.ensures.learnt e.learnt e.settles)

pub returns-clause-learnt : goal.returns-clause-learnt
returns-clause-learnt g c =
    learnt_on (owner_in c.args.self.now) (owner_in c.start.new.self) (owner_in c.finish-2.new.self) c.start.ensures.learnt c.finish-2.ensures.learnt

pub returns-clause-open : goal.returns-clause-open
returns-clause-open g c =
    runs_by_open (MayLeave g.W.ValueWork.may g.W.ValueWork.takes) (GivesBack g.W.ValueWork.takes)
    c.finish-2.result c.args.self.now.worker c.finish-2.new.self.worker
    (returns-clause-runs g c)

pub returns-clause-unclosed : goal.returns-clause-unclosed
returns-clause-unclosed g c =
    runs_by_unclosed (MayLeave g.W.ValueWork.may g.W.ValueWork.takes) (GivesBack g.W.ValueWork.takes)
    c.finish-2.result c.args.self.now.worker
    c.finish-2.new.self.worker (returns-clause-runs g c)

pub returns-clause-same : goal.returns-clause-same
returns-clause-same g c =
    runs_by_same (MayLeave g.W.ValueWork.may g.W.ValueWork.takes) (GivesBack g.W.ValueWork.takes)
    c.finish-2.result c.args.self.now.worker c.finish-2.new.self.worker
    (returns-clause-runs g c)

pub returns-clause-legal : goal.returns-clause-legal
returns-clause-legal g c =
    runs_by_legal (MayLeave g.W.ValueWork.may g.W.ValueWork.takes) (GivesBack g.W.ValueWork.takes)
    c.finish-2.result c.args.self.now.worker c.finish-2.new.self.worker
    (returns-clause-runs g c)

pub returns-in_default-start-clause-runs : goal.returns-in_default-start-clause-runs
returns-in_default-start-clause-runs g c =
    let h = c.args.self.now.worker.seen in let none : running h ≡ None = search rules in let e = c.in_default-start.ensures.outcome in
    (runs_none h none, e.0, e.1, e.2)

pub returns-in_default-start-clause-settles : goal.returns-in_default-start-clause-settles
returns-in_default-start-clause-settles g c = c.in_default-start.ensures.pairs

pub returns-in_default-start-clause-open : goal.returns-in_default-start-clause-open
returns-in_default-start-clause-open g c =
    runs_by_open (MayLeave g.W.ValueWork.may g.W.ValueWork.takes) (GivesBack g.W.ValueWork.takes) Nothing c.args.self.now.worker c.start.new.self.worker
    (returns-in_default-start-clause-runs g c)

pub returns-in_default-start-clause-unclosed : goal.returns-in_default-start-clause-unclosed
returns-in_default-start-clause-unclosed g c =
    runs_by_unclosed (MayLeave g.W.ValueWork.may g.W.ValueWork.takes) (GivesBack g.W.ValueWork.takes) Nothing c.args.self.now.worker c.start.new.self.worker
    (returns-in_default-start-clause-runs g c)

pub returns-in-Some-clause-settles : goal.returns-in-Some-clause-settles
returns-in-Some-clause-settles g c =
    settles_by g.W.ValueWork.given g.W.ValueWork.may g.W.ValueWork.takes c.finish.result c.args.self.now c.finish.new.self c.finish.ensures.some
    c.finish.ensures.settles

pub returns-in-Some-clause-open : goal.returns-in-Some-clause-open
returns-in-Some-clause-open g c =
    runs_by_open (MayLeave g.W.ValueWork.may g.W.ValueWork.takes) (GivesBack g.W.ValueWork.takes)
    c.finish.result c.args.self.now.worker c.finish.new.self.worker
    c.finish.ensures.runs

pub returns-in-Some-clause-unclosed : goal.returns-in-Some-clause-unclosed
returns-in-Some-clause-unclosed g c =
    runs_by_unclosed (MayLeave g.W.ValueWork.may g.W.ValueWork.takes) (GivesBack g.W.ValueWork.takes)
    c.finish.result c.args.self.now.worker c.finish.new.self.worker
    c.finish.ensures.runs

pub returns-in-Some-clause-same : goal.returns-in-Some-clause-same
returns-in-Some-clause-same g c =
    runs_by_same (MayLeave g.W.ValueWork.may g.W.ValueWork.takes) (GivesBack g.W.ValueWork.takes)
    c.finish.result c.args.self.now.worker c.finish.new.self.worker
    c.finish.ensures.runs

pub returns-in-Some-clause-legal : goal.returns-in-Some-clause-legal
returns-in-Some-clause-legal g c =
    runs_by_legal (MayLeave g.W.ValueWork.may g.W.ValueWork.takes) (GivesBack g.W.ValueWork.takes)
    c.finish.result c.args.self.now.worker c.finish.new.self.worker
    c.finish.ensures.runs

pub returns-clause-closed : goal.returns-clause-closed
returns-clause-closed g c =
    runs_by_closed (MayLeave g.W.ValueWork.may g.W.ValueWork.takes) (GivesBack g.W.ValueWork.takes)
    c.finish-2.result c.args.self.now.worker
    c.finish-2.new.self.worker (returns-clause-runs g c)

pub returns-clause-shut : goal.returns-clause-shut
returns-clause-shut g c =
    runs_by_shut (MayLeave g.W.ValueWork.may g.W.ValueWork.takes) (GivesBack g.W.ValueWork.takes)
    c.finish-2.result c.args.self.now.worker
    c.finish-2.new.self.worker (returns-clause-runs g c)

pub returns-in_default-start-clause-closed : goal.returns-in_default-start-clause-closed
returns-in_default-start-clause-closed g c =
    runs_by_closed (MayLeave g.W.ValueWork.may g.W.ValueWork.takes) (GivesBack g.W.ValueWork.takes) Nothing c.args.self.now.worker c.start.new.self.worker
    (returns-in_default-start-clause-runs g c)

pub returns-in_default-start-clause-shut : goal.returns-in_default-start-clause-shut
returns-in_default-start-clause-shut g c =
    runs_by_shut (MayLeave g.W.ValueWork.may g.W.ValueWork.takes) (GivesBack g.W.ValueWork.takes) Nothing c.args.self.now.worker c.start.new.self.worker
    (returns-in_default-start-clause-runs g c)

pub returns-in-Some-clause-closed : goal.returns-in-Some-clause-closed
returns-in-Some-clause-closed g c =
    runs_by_closed (MayLeave g.W.ValueWork.may g.W.ValueWork.takes) (GivesBack g.W.ValueWork.takes)
    c.finish.result c.args.self.now.worker c.finish.new.self.worker
    c.finish.ensures.runs

pub returns-in-Some-clause-shut : goal.returns-in-Some-clause-shut
returns-in-Some-clause-shut g c =
    runs_by_shut (MayLeave g.W.ValueWork.may g.W.ValueWork.takes) (GivesBack g.W.ValueWork.takes)
    c.finish.result c.args.self.now.worker c.finish.new.self.worker
    c.finish.ensures.runs

pub returns-clause-given : goal.returns-clause-given
returns-clause-given g c =
    let w = g.W.ValueWork in let a = c.args.self.now in let b = c.finish-2.new.self in
    dealt_by_given w.given w.may w.takes c.finish-2.result a b (returns-clause-runs g c) (returns-clause-settles g c)

pub returns-in_default-start-clause-given : goal.returns-in_default-start-clause-given
returns-in_default-start-clause-given g c =
    let w = g.W.ValueWork in let a = c.args.self.now in let b = c.start.new.self in
    dealt_by_given w.given w.may w.takes Nothing a b (returns-in_default-start-clause-runs g c) (returns-in_default-start-clause-settles g c)

pub returns-in-Some-clause-given : goal.returns-in-Some-clause-given
returns-in-Some-clause-given g c =
    let w = g.W.ValueWork in let a = c.args.self.now in let b = c.finish.new.self in
    dealt_by_given w.given w.may w.takes c.finish.result a b c.finish.ensures.runs (returns-in-Some-clause-settles g c)

pub returns-clause-log_grows : goal.returns-clause-log_grows
returns-clause-log_grows g c =
    let w = g.W.ValueWork in let a = c.args.self.now in let b = c.finish-2.new.self in
    pairs_log a b (w.log a.worker.work) (w.log b.worker.work) c.logged.ensures.log c.finish-2.ensures.logged
    (runs_by_seen (MayLeave w.may w.takes) (GivesBack w.takes) c.finish-2.result a.worker b.worker (returns-clause-runs g c))
    (returns-clause-legal g c) (returns-clause-learnt g c)

pub returns-in_default-start-clause-log_grows : goal.returns-in_default-start-clause-log_grows
returns-in_default-start-clause-log_grows g c =
    same_more g.W.ValueWork.log c.args.self.now.worker.work c.start.new.self.worker.work c.in_default-start.ensures.outcome.1

pub returns-in-Some-clause-log_grows : goal.returns-in-Some-clause-log_grows
returns-in-Some-clause-log_grows g c =
    let w = g.W.ValueWork in let a = c.args.self.now in let b = c.finish.new.self in
    pairs_log a b (w.log a.worker.work) (w.log b.worker.work) c.logged.ensures.log c.finish.ensures.logged
    (runs_by_seen (MayLeave w.may w.takes) (GivesBack w.takes) c.finish.result a.worker b.worker c.finish.ensures.runs)
    (returns-in-Some-clause-legal g c) c.finish.ensures.learnt

pub returns-clause-running : goal.returns-clause-running
returns-clause-running g c =
    runs_by_running (MayLeave g.W.ValueWork.may g.W.ValueWork.takes) (GivesBack g.W.ValueWork.takes)
    c.finish-2.result c.args.self.now.worker c.finish-2.new.self.worker
    (returns-clause-runs g c)

pub returns-in_default-start-clause-running : goal.returns-in_default-start-clause-running
returns-in_default-start-clause-running g c = c.in_default-start.ensures.outcome.3.0

pub returns-in-Some-clause-running : goal.returns-in-Some-clause-running
returns-in-Some-clause-running g c =
    runs_by_running (MayLeave g.W.ValueWork.may g.W.ValueWork.takes) (GivesBack g.W.ValueWork.takes)
    c.finish.result c.args.self.now.worker c.finish.new.self.worker
    c.finish.ensures.runs
