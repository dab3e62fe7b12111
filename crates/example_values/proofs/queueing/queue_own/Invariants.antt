use Rattle.std.specs.Prelude.{◌≡◌}
use Rattle.wq_values.specs.Known.{IsSame}
use Rattle.wq_values.specs.OwnBrought.{own_brought}
use Rattle.example_values.specs.Messages.{numbers_of}
use Rattle.example_values.proofs.queueing.queue_own.Given as goal

abbrev pub invariant-loop-item : goal.invariant-loop-item
invariant-loop-item g l = IsSame l.fn.sender.known l.sender.known
    × (numbers_of (own_brought l.fn.sender.known.number l.sender.known.seen l.sender.brought) ≡ l.queued.items)
