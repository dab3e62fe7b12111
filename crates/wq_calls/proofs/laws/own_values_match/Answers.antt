use Rattle.wq_calls.proofs.OwnBrought.{own_brought_length}
use Rattle.wq_calls.proofs.ValuesBySeat.{nothing_brought}
use Rattle.wq_calls.proofs.laws.own_values_match.Goals as goal

pub returns : goal.returns
returns g c = record { as_many = own_brought_length; none = nothing_brought }
