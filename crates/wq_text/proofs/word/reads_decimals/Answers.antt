use Rattle.wq_text.proofs.Decimal.{reads_decimals}
use Rattle.wq_text.proofs.word.reads_decimals.Goals as goal

pub returns : goal.returns
returns c = record { exactly = reads_decimals }
