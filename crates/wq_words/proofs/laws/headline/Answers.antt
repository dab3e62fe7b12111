use Rattle.wq_words.proofs.Headlines.{keeps_headline}
use Rattle.wq_words.proofs.laws.headline.Goals as goal

pub returns : goal.returns
returns c = record { each_legal = keeps_headline }
