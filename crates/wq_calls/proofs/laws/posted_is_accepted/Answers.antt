use Rattle.wq_calls.proofs.Resting.{posted_accepted}
use Rattle.wq_calls.proofs.laws.posted_is_accepted.Goals as goal

pub returns : goal.returns
returns c = record { grows = posted_accepted }
