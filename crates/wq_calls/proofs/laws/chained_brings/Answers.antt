use Rattle.wq_calls.proofs.OwnBrought.{chained_own}
use Rattle.wq_calls.proofs.laws.chained_brings.Goals as goal

pub returns : goal.returns
returns g c = record { grows = chained_own }
