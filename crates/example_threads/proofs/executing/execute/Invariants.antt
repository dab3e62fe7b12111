use Rattle.std.specs.Prelude.{◌≡◌}
use Rattle.wq_words.specs.History.{accepted, IsRunning, IsClosed, IsShut}
use Rattle.wq_words.specs.Seen.{own}
use Rattle.wq_live.specs.Known.{IsSame}
use Rattle.example_threads.proofs.executing.execute.Given as goal

abbrev pub invariant-loop : goal.invariant-loop
invariant-loop g l = IsSame l.fn.owner l.owner × (¬ IsRunning l.owner.seen)
    × (¬ IsShut l.fn.owner.seen → ¬ IsShut l.owner.seen) × (¬ IsClosed l.fn.owner.seen → ¬ IsClosed l.owner.seen)
    × (IsClosed l.fn.owner.seen → IsClosed l.owner.seen)
    × (accepted (own l.owner.number l.owner.seen) ≡ accepted (own l.fn.owner.number l.fn.owner.seen))
