use Rattle.wq_calls.proofs.OwnBrought.{own_stays}
use Rattle.wq_calls.proofs.laws.own_values_stay.Goals as goal

pub returns : goal.returns
returns g c = record { same = own_stays }
