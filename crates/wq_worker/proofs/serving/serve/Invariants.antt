use Rattle.std.proofs.Common.{ℕ}
use Rattle.wq_worker.specs.Rows.{RowBy, IsNotStop, Along}
use Rattle.wq_worker.proofs.serving.serve.Given as goal

abbrev pub invariant-loop : goal.invariant-loop
invariant-loop g l =
    let s = g.S.Station in (goal.iterator-loop g).can_next l.iterator' × (goal.iterator-loop g).is_finite l.iterator'
    × (steps : ℕ) × RowBy s.may s.gives IsNotStop steps (s.state l.initial.station) (s.state l.station)
    × Along s.deals l.initial.station l.station
