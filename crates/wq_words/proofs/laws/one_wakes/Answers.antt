use Rattle.wq_words.proofs.Rest.{wakes_once_a_rest}
use Rattle.wq_words.proofs.laws.one_wakes.Goals as goal

pub returns : goal.returns
returns c = record { once_a_rest = wakes_once_a_rest }
