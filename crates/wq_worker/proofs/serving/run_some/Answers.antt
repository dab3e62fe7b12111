use Rattle.wq_worker.proofs.Common.{refl, arith, Item, Barrier, Stop, Nothing, Owing, none, more}
use Rattle.wq_worker.specs.Rows.{GoesOn, broken, here, onward}
use Rattle.wq_worker.proofs.Rows.{worker_on, row_same, row_open, row_unclosed}
use Rattle.wq_worker.proofs.serving.run_some.Goals as goal
use Rattle.wq_worker.proofs.serving.run_some.Goals.{in-Item, in-Barrier}

pub loop-done-init : goal.loop-done-init
loop-done-init g c = (none (g.S.Station.state c.args.station.now), c.legal.ensures.legal, here c.args.station.now)

pub returns-in-Stop-clause-runs : goal.returns-in-Stop-clause-runs
returns-in-Stop-clause-runs g c =
    let l = c.loop-done in broken l.done Stop (g.S.Station.state l.station) l.invariant.0 c.loop-done-test.true tt c.in-Stop.ensures.runs refl

pub returns-in-Stop-clause-same : goal.returns-in-Stop-clause-same
returns-in-Stop-clause-same g c =
    let s = g.S.Station in let a = s.state c.args.station.now in let l = c.loop-done in let m = s.state l.station in
    worker_on a m (s.state c.run_one.new.self) (row_same s.may s.gives GoesOn l.done a m l.invariant.0) c.in-Stop.ensures.same

pub returns-in-Nothing-clause-runs : goal.returns-in-Nothing-clause-runs
returns-in-Nothing-clause-runs g c =
    let l = c.loop-done in
    broken l.done Nothing (g.S.Station.state l.station) l.invariant.0 c.loop-done-test.true tt c.in-Nothing.ensures.runs (omega arith)

pub returns-in-Nothing-clause-same : goal.returns-in-Nothing-clause-same
returns-in-Nothing-clause-same g c =
    let s = g.S.Station in let a = s.state c.args.station.now in let l = c.loop-done in let m = s.state l.station in
    worker_on a m (s.state c.run_one.new.self) (row_same s.may s.gives GoesOn l.done a m l.invariant.0) c.in-Nothing.ensures.same

pub returns-in-Owing-clause-runs : goal.returns-in-Owing-clause-runs
returns-in-Owing-clause-runs g c =
    let l = c.loop-done in
    broken l.done (Owing c.in-Owing.field-0) (g.S.Station.state l.station) l.invariant.0 c.loop-done-test.true tt c.in-Owing.ensures.runs
    (omega arith)

pub returns-in-Owing-clause-same : goal.returns-in-Owing-clause-same
returns-in-Owing-clause-same g c =
    let s = g.S.Station in let a = s.state c.args.station.now in let l = c.loop-done in let m = s.state l.station in
    worker_on a m (s.state c.run_one.new.self) (row_same s.may s.gives GoesOn l.done a m l.invariant.0) c.in-Owing.ensures.same

pub returns-in-Stop-clause-open : goal.returns-in-Stop-clause-open
returns-in-Stop-clause-open g c opens =
    let s = g.S.Station in let l = c.loop-done in
    c.in-Stop.ensures.open (row_open s.may s.gives GoesOn l.done (s.state c.args.station.now) (s.state l.station) l.invariant.0 opens)

pub returns-in-Stop-clause-unclosed : goal.returns-in-Stop-clause-unclosed
returns-in-Stop-clause-unclosed g c opens =
    let s = g.S.Station in let l = c.loop-done in
    c.in-Stop.ensures.unclosed (row_unclosed s.may s.gives GoesOn l.done (s.state c.args.station.now) (s.state l.station) l.invariant.0 opens)

pub returns-in-Nothing-clause-open : goal.returns-in-Nothing-clause-open
returns-in-Nothing-clause-open g c opens =
    let s = g.S.Station in let l = c.loop-done in
    c.in-Nothing.ensures.open (row_open s.may s.gives GoesOn l.done (s.state c.args.station.now) (s.state l.station) l.invariant.0 opens)

pub returns-in-Nothing-clause-unclosed : goal.returns-in-Nothing-clause-unclosed
returns-in-Nothing-clause-unclosed g c opens =
    let s = g.S.Station in let l = c.loop-done in
    c.in-Nothing.ensures.unclosed (row_unclosed s.may s.gives GoesOn l.done (s.state c.args.station.now) (s.state l.station) l.invariant.0 opens)

pub returns-in-Owing-clause-open : goal.returns-in-Owing-clause-open
returns-in-Owing-clause-open g c opens =
    let s = g.S.Station in let l = c.loop-done in
    c.in-Owing.ensures.open (row_open s.may s.gives GoesOn l.done (s.state c.args.station.now) (s.state l.station) l.invariant.0 opens)

pub returns-in-Owing-clause-unclosed : goal.returns-in-Owing-clause-unclosed
returns-in-Owing-clause-unclosed g c opens =
    let s = g.S.Station in let l = c.loop-done in
    c.in-Owing.ensures.unclosed (row_unclosed s.may s.gives GoesOn l.done (s.state c.args.station.now) (s.state l.station) l.invariant.0 opens)

pub returns-clause-open : goal.returns-clause-open
returns-clause-open g c =
    let s = g.S.Station in let l = c.loop-done in row_open s.may s.gives GoesOn l.done (s.state c.args.station.now) (s.state l.station) l.invariant.0

pub returns-clause-unclosed : goal.returns-clause-unclosed
returns-clause-unclosed g c =
    let s = g.S.Station in let l = c.loop-done in row_unclosed s.may s.gives GoesOn l.done (s.state c.args.station.now) (s.state l.station) l.invariant.0

pub returns-clause-same : goal.returns-clause-same
returns-clause-same g c =
    let s = g.S.Station in let l = c.loop-done in row_same s.may s.gives GoesOn l.done (s.state c.args.station.now) (s.state l.station) l.invariant.0

pub returns-in-Stop-clause-deals : goal.returns-in-Stop-clause-deals
returns-in-Stop-clause-deals g c =
    let l = c.loop-done in onward c.args.station.now l.station c.run_one.new.self l.invariant.2 c.in-Stop.ensures.deals

pub returns-in-Nothing-clause-deals : goal.returns-in-Nothing-clause-deals
returns-in-Nothing-clause-deals g c =
    let l = c.loop-done in onward c.args.station.now l.station c.run_one.new.self l.invariant.2 c.in-Nothing.ensures.deals

pub returns-in-Owing-clause-deals : goal.returns-in-Owing-clause-deals
returns-in-Owing-clause-deals g c =
    let l = c.loop-done in onward c.args.station.now l.station c.run_one.new.self l.invariant.2 c.in-Owing.ensures.deals

pub returns-clause-deals : goal.returns-clause-deals
returns-clause-deals g c = c.loop-done.invariant.2

pub loop-done-preserved : goal.loop-done-preserved
loop-done-preserved g c =
    let s = g.S.Station in let a = s.state c.args.station.now in let l = c.loop-done in let m = s.state l.station in
    let b = s.state c.run_one.new.self in let on = onward c.args.station.now l.station c.run_one.new.self l.invariant.2 in
    elim c.match-run_one.branch [
      | in-Item w ↦ let e = w.in-Item.ensures in (more l.done (Item w.in-Item.field-0) a m b l.invariant.0 tt e.runs, e.legal, on e.deals)
      | in-Barrier w ↦ let e = w.in-Barrier.ensures in (more l.done (Barrier w.in-Barrier.field-0) a m b l.invariant.0 tt e.runs, e.legal, on e.deals)
    ]
