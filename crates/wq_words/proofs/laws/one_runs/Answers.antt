use Rattle.wq_words.proofs.Order.{idle-same, running-last}
use Rattle.wq_words.proofs.laws.one_runs.Goals as goal

pub returns : goal.returns
returns c = record { none = idle-same; last = running-last }
