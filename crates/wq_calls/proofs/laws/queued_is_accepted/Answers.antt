use Rattle.wq_calls.proofs.Resting.{queued_accepted}
use Rattle.wq_calls.proofs.laws.queued_is_accepted.Goals as goal

pub returns : goal.returns
returns c = record { grows = queued_accepted }
