use Rattle.wq_core.proofs.Taken.{pushed_first, pushed_wakes}
use Rattle.wq_core.proofs.laws.first_push.Goals as goal

pub returns : goal.returns
returns c = record { first = pushed_first; wakes = pushed_wakes }
