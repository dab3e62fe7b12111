use Rattle.wq_worker.proofs.Common.{◌+◌, Item, Barrier, Stop, Nothing, Owing, none, more}
use Rattle.wq_words.proofs.Closed.{closed_shuts}
use Rattle.wq_worker.specs.Rows.{IsNotStop, here, onward}
use Rattle.wq_worker.proofs.Rows.{worker_on, row_same, row_open, runs_by_open, ends_idle}
use Rattle.wq_worker.proofs.serving.serve.Goals as goal

pub loop-init : goal.loop-init
loop-init g c = (tt, tt, 0, none (g.S.Station.state c.args.station.now), here c.args.station.now)

pub returns-in-Stop-clause-serves : goal.returns-in-Stop-clause-serves
returns-in-Stop-clause-serves g c =
    let i = c.loop.invariant in record { steps = i.2; last = g.S.Station.state c.loop.station; row = i.3; stops = c.in-Stop.ensures.runs }

pub returns-in-Stop-clause-deals : goal.returns-in-Stop-clause-deals
returns-in-Stop-clause-deals g c = onward c.args.station.now c.loop.station c.run_one.new.self c.loop.invariant.4 c.in-Stop.ensures.deals

pub returns-in-Stop-clause-same : goal.returns-in-Stop-clause-same
returns-in-Stop-clause-same g c =
    let s = g.S.Station in let a = s.state c.args.station.now in let m = s.state c.loop.station in let i = c.loop.invariant in
    worker_on a m (s.state c.run_one.new.self) (row_same s.may s.gives IsNotStop i.2 a m i.3) c.in-Stop.ensures.same

pub returns-in-Stop-clause-open : goal.returns-in-Stop-clause-open
returns-in-Stop-clause-open g c =
    let s = g.S.Station in let a = s.state c.args.station.now in let m = s.state c.loop.station in let i = c.loop.invariant in
    runs_by_open s.may s.gives Stop m (s.state c.run_one.new.self) c.in-Stop.ensures.runs (row_open s.may s.gives IsNotStop i.2 a m i.3 c.requires.«open»)

pub returns-in-Stop-clause-unclosed : goal.returns-in-Stop-clause-unclosed
returns-in-Stop-clause-unclosed g c =
    let h = (g.S.Station.state c.run_one.new.self).seen in λ closed. returns-in-Stop-clause-open g c (closed_shuts h closed)

pub returns-in-Stop-clause-idle : goal.returns-in-Stop-clause-idle
returns-in-Stop-clause-idle g c =
    let s = g.S.Station in let t = c.in-Stop.ensures.runs in
    ends_idle s.may s.gives t.0 (s.state c.loop.station) (s.state c.run_one.new.self) t.2

pub loop-preserved-in-Nothing : goal.loop-preserved-in-Nothing
loop-preserved-in-Nothing g c =
    let s = g.S.Station.state in let i = c.loop.invariant in (
      tt,
      tt,
      i.2 + 1,
      more i.2 Nothing (s c.args.station.now) (s c.loop.station) (s c.run_one.new.self) i.3 tt c.in-Nothing.ensures.runs,
      onward c.args.station.now c.loop.station c.run_one.new.self i.4 c.in-Nothing.ensures.deals,
    )

pub loop-preserved-in-Item : goal.loop-preserved-in-Item
loop-preserved-in-Item g c =
    let s = g.S.Station.state in let i = c.loop.invariant in let r = Item c.in-Item.field-0 in (
      tt,
      tt,
      i.2 + 1,
      more i.2 r (s c.args.station.now) (s c.loop.station) (s c.run_one.new.self) i.3 tt c.in-Item.ensures.runs,
      onward c.args.station.now c.loop.station c.run_one.new.self i.4 c.in-Item.ensures.deals,
    )

pub loop-preserved-in-Barrier : goal.loop-preserved-in-Barrier
loop-preserved-in-Barrier g c =
    let s = g.S.Station.state in let i = c.loop.invariant in let r = Barrier c.in-Barrier.field-0 in (
      tt,
      tt,
      i.2 + 1,
      more i.2 r (s c.args.station.now) (s c.loop.station) (s c.run_one.new.self) i.3 tt c.in-Barrier.ensures.runs,
      onward c.args.station.now c.loop.station c.run_one.new.self i.4 c.in-Barrier.ensures.deals,
    )

pub loop-preserved : goal.loop-preserved
loop-preserved g c =
    let s = g.S.Station.state in let i = c.loop.invariant in let r = Owing c.in-Owing.field-0 in (
      tt,
      tt,
      i.2 + 1,
      more i.2 r (s c.args.station.now) (s c.loop.station) (s c.run_one.new.self) i.3 tt c.in-Owing.ensures.runs,
      onward c.args.station.now c.loop.station c.run_one.new.self i.4 c.in-Owing.ensures.deals,
    )
