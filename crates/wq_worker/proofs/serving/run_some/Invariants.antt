use Rattle.wq_words.specs.Legal.{IsLegal}
use Rattle.wq_worker.specs.Rows.{RowBy, GoesOn, Along}
use Rattle.wq_worker.proofs.serving.run_some.Given as goal

abbrev pub invariant-loop-done : goal.invariant-loop-done
invariant-loop-done g l =
    let s = g.S.Station in RowBy s.may s.gives GoesOn l.done (s.state l.initial.station) (s.state l.station)
    × IsLegal (s.state l.station).layout (s.state l.station).seen
    × Along s.deals l.initial.station l.station
