use Rattle.wq_calls.proofs.OwnBrought.{brings_none}
use Rattle.wq_calls.proofs.laws.queued_brings_nothing.Goals as goal

pub returns : goal.returns
returns g c = record { grows = brings_none }
