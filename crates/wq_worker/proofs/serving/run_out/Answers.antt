use Rattle.wq_worker.proofs.Common.{arith, HasRunOut, none, more, IsExecution}
use Rattle.wq_worker.specs.Rows.{here, onward}
use Rattle.wq_worker.proofs.Draining.{executes}
use Rattle.wq_worker.proofs.Rows.{row_same}
use Rattle.wq_worker.proofs.serving.run_out.Goals as goal

pub loop-done-init : goal.loop-done-init
loop-done-init g c = (none (g.S.Station.state c.args.station.now), c.requires, c.legal.ensures.legal, here c.args.station.now, λ out. out)

pub left-requires : goal.left-requires
left-requires g c = c.loop-done.invariant.1

pub left-requires-2 : goal.left-requires-2
left-requires-2 g c = c.loop-done.invariant.1

pub returns-then-left-eq0-clause-runs : goal.returns-then-left-eq0-clause-runs
returns-then-left-eq0-clause-runs g c =
    record {
      steps = c.loop-done._done;
      within = omega arith;
      row = c.loop-done.invariant.0;
      left_is = omega (arith, c.left.ensures, c.if-left-eq0.true);
      stops = λ some. absurd (omega (arith, some));
    }

pub returns-then-left-eq0-clause-same : goal.returns-then-left-eq0-clause-same
returns-then-left-eq0-clause-same g c =
    let s = g.S.Station in let l = c.loop-done in row_same s.may s.gives IsExecution l._done (s.state c.args.station.now) (s.state l.station) l.invariant.0

pub returns-clause-runs : goal.returns-clause-runs
returns-clause-runs g c =
    record { steps = c.loop-done._done; within = omega arith; row = c.loop-done.invariant.0; left_is = c.left-2.ensures; stops = λ some. omega arith }

pub returns-clause-same : goal.returns-clause-same
returns-clause-same g c =
    let s = g.S.Station in let l = c.loop-done in row_same s.may s.gives IsExecution l._done (s.state c.args.station.now) (s.state l.station) l.invariant.0

pub returns-then-left-eq0-clause-deals : goal.returns-then-left-eq0-clause-deals
returns-then-left-eq0-clause-deals g c = c.loop-done.invariant.3

pub returns-clause-deals : goal.returns-clause-deals
returns-clause-deals g c = c.loop-done.invariant.3

pub returns-clause-done : goal.returns-clause-done
returns-clause-done g c out = let e = c.loop-done.invariant.4 out in omega (arith, c.left-2.ensures, e.1)

pub loop-done-preserved : goal.loop-done-preserved
loop-done-preserved g c =
    let s = g.S.Station in let m = s.state c.loop-done.station in let b = s.state c.run_one.new.self in
    let r = c.run_one.result in let i = c.loop-done.invariant in let told = c.run_one.ensures in
    let rest : ¬ HasRunOut m.seen = λ (out : HasRunOut m.seen). omega (arith, out.1, c.left.ensures, c.if-left-eq0.false) in
    let e = executes s.may s.gives r m b i.1 rest told.runs in (
      more c.loop-done._done r (s.state c.args.station.now) m b i.0 e.0 told.runs,
      e.1,
      told.legal,
      onward c.args.station.now c.loop-done.station c.run_one.new.self i.3 told.deals,
      λ out. absurd (rest (i.4 out)),
    )
