use Rattle.wq_calls.proofs.ValuesBySeat.{values_over_seats}
use Rattle.wq_calls.proofs.laws.values_add_up.Goals as goal

pub returns : goal.returns
returns g c = record { sums = values_over_seats }
