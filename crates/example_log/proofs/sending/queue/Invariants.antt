use Rattle.std.specs.Prelude.{◌≡◌}
use Rattle.wq_values.specs.Known.{IsSame}
use Rattle.wq_ready.specs.Known.{IsCallerOf}
use Rattle.example_log.specs.Sent.{own_lines}
use Rattle.example_log.proofs.sending.queue.Given as goal

abbrev pub invariant-loop : goal.invariant-loop
invariant-loop g l = IsSame l.fn.sender.known l.sender.known × IsCallerOf l.pool.ready l.caller
    × (own_lines l.sender ≡ own_lines l.fn.sender) × (l.line ≡ l.fn.line)
