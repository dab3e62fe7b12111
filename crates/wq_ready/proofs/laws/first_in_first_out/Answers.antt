use Rattle.wq_ready.proofs.Order.{keeps_order}
use Rattle.wq_ready.proofs.laws.first_in_first_out.Goals as goal

pub returns : goal.returns
returns c = record { each_legal = keeps_order }
