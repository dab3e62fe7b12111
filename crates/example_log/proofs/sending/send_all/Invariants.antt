use Rattle.std.specs.Prelude.{◌≡◌, ◌+◌, ◌<◌, ◌≤◌, Some, map, length}
use Rattle.wq_values.specs.Known.{IsSame}
use Rattle.wq_ready.specs.Known.{IsCallerOf}
use Rattle.example_log.specs.declared.message.Log.TheVariants.{Access, Errors}
use Rattle.example_log.specs.Sent.{own_lines, lines_to}
use Rattle.example_log.proofs.sending.send_all.Given as goal

abbrev pub invariant-loop-message : goal.invariant-loop-message
invariant-loop-message g l = (goal.iterator-loop-message g).can_next l.message-iterator × (goal.iterator-loop-message g).is_finite l.message-iterator
    × IsSame l.fn.client.access.known l.client.access.known × IsSame l.fn.client.errors.known l.client.errors.known
    × IsCallerOf l.pool.ready l.client.caller × (l.fn.first ≤ l.item) × (l.item < l.fn.first + 4) × (l.count ≡ length l.yielded)
    × (own_lines l.client.access ≡ map Some (lines_to Access l.yielded)) × (own_lines l.client.errors ≡ map Some (lines_to Errors l.yielded))
