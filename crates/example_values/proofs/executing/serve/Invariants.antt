use Rattle.std.specs.Prelude.{◌≡◌, []}
use Rattle.wq_words.specs.History.{accepted, IsRunning, IsShut}
use Rattle.wq_words.specs.Seen.{own}
use Rattle.wq_values.specs.Known.{IsSame}
use Rattle.wq_values.specs.KnownWith.{handed_in}
use Rattle.wq_values.specs.Batch.{batch}
use Rattle.example_values.specs.Messages.{numbers_of}
use Rattle.example_values.proofs.executing.serve.Given as goal

abbrev pub invariant-loop : goal.invariant-loop
invariant-loop g l = IsSame l.fn.it.owner.known l.it.owner.known × (¬ IsShut l.it.owner.known.seen) × (batch l.it.owner.known.seen ≡ [])
    × (¬ IsRunning l.it.owner.known.seen) × (numbers_of (handed_in l.it.owner) ≡ l.it.ran.items)
    × (accepted (own l.it.owner.known.number l.it.owner.known.seen) ≡ accepted (own l.fn.it.owner.known.number l.fn.it.owner.known.seen))
