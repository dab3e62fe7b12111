use Rattle.wq_check.proofs.Shown.{trace_history}
use Rattle.wq_check.proofs.Unshown.{history_rules}
use Rattle.wq_check.proofs.ItemPart.{of_items}
use Rattle.wq_check.proofs.laws.traces_show_histories.Goals as goal

pub returns : goal.returns
returns c = record { each_legal = trace_history; no_other = history_rules; of_items = of_items }
