use Rattle.wq_words.proofs.Places.{keeps-keeper}
use Rattle.wq_words.proofs.laws.one_keeper.Goals as goal

pub returns : goal.returns
returns c = record { agrees = keeps-keeper }
