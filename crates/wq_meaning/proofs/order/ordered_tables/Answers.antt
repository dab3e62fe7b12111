use Rattle.wq_meaning.proofs.InOrder.{final_in_order}
use Rattle.wq_meaning.proofs.order.ordered_tables.Goals as goal

pub returns : goal.returns
returns c = record { in_order = λ layout commands. final_in_order layout commands }
