use Rattle.std.specs.Prelude.{◌≡◌, []}
use Rattle.wq_words.specs.History.{accepted, IsRunning, IsShut}
use Rattle.wq_words.specs.Seen.{own}
use Rattle.wq_live.specs.Known.{IsSame}
use Rattle.wq_live.specs.Batch.{batch}
use Rattle.example_threads.proofs.executing.serve.Given as goal

abbrev pub invariant-loop : goal.invariant-loop
invariant-loop g l = IsSame l.fn.owner l.owner × (¬ IsShut l.owner.seen) × (batch l.owner.seen ≡ []) × (¬ IsRunning l.owner.seen)
    × (accepted (own l.owner.number l.owner.seen) ≡ accepted (own l.fn.owner.number l.fn.owner.seen))
