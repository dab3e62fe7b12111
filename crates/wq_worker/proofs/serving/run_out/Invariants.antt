use Rattle.wq_worker.proofs.Common.{IsShut, IsLegal, HasRunOut, RowBy, IsExecution}
use Rattle.wq_worker.specs.Rows.{Along}
use Rattle.wq_worker.proofs.serving.run_out.Given as goal

abbrev pub invariant-loop-done : goal.invariant-loop-done
invariant-loop-done g l =
    let s = g.S.Station in RowBy s.may s.gives IsExecution l._done (s.state l.initial.station) (s.state l.station)
    × IsShut (s.state l.station).seen × IsLegal (s.state l.station).layout (s.state l.station).seen
    × Along s.deals l.initial.station l.station
    × (HasRunOut (s.state l.initial.station).seen → HasRunOut (s.state l.station).seen)
