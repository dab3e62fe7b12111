use Rattle.wq_calls.proofs.OwnBrought.{brings_own}
use Rattle.wq_calls.proofs.laws.queued_brings.Goals as goal

pub returns : goal.returns
returns g c = record { grows = brings_own }
