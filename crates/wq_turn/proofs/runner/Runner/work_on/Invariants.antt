use Rattle.wq_turn.proofs.Common.{◌≡◌, ◌<◌, IsRunning, StepRow}
use Rattle.wq_worker.specs.Rows.{Along}
use Rattle.wq_turn.proofs.runner.Runner.work_on.Given as goal

abbrev pub invariant-loop-ended : goal.invariant-loop-ended
invariant-loop-ended g l =
    let k = g.K.Station in
    StepRow k.may k.gives l._ended (k.state l.initial.self) (k.state l.self) × (0 < l._ended → ¬ IsRunning (k.state l.self).seen)
    × (l._ended ≡ 0 → l.self ≡ l.initial.self) × Along k.deals l.initial.self l.self
