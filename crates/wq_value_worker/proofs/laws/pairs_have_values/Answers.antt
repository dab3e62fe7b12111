use Rattle.wq_value_worker.proofs.Returned.{pairs_values, pairs_sum}
use Rattle.wq_value_worker.proofs.laws.pairs_have_values.Goals as goal

pub returns : goal.returns
returns g c = record { values = pairs_values; sums = pairs_sum }
