use Rattle.wq_calls.proofs.FoundPending.{queueing_found_pending, hold_found_pending, chaining_found_pending}
use Rattle.wq_calls.proofs.laws.pending_was_pending.Goals as goal

pub returns : goal.returns
returns c = record { queued = queueing_found_pending; held = hold_found_pending; chained = chaining_found_pending }
