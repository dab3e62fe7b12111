use Rattle.wq_calls.proofs.Resting.{chained_accepted}
use Rattle.wq_calls.proofs.laws.chained_is_accepted.Goals as goal

pub returns : goal.returns
returns c = record { grows = chained_accepted }
