use Rattle.wq_calls.proofs.OwnerStays.{shut_brought}
use Rattle.wq_calls.proofs.laws.owner_values_stay.Goals as goal

pub returns : goal.returns
returns g c = record { same = shut_brought }
