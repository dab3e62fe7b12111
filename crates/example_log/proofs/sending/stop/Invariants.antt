use Rattle.std.specs.Prelude.{◌≡◌, []}
use Rattle.wq_words.specs.History.{accepted}
use Rattle.wq_words.specs.Seen.{own}
use Rattle.wq_values.specs.Known.{IsSame}
use Rattle.wq_ready.specs.Known.{IsCallerOf}
use Rattle.example_log.proofs.sending.stop.Given as goal

abbrev pub invariant-loop : goal.invariant-loop
invariant-loop g l = IsCallerOf l.pool.ready l.caller × IsSame l.fn.sender.known l.sender.known
    × (accepted (own l.fn.sender.known.number l.sender.known.seen) ≡ [])
