use Rattle.wq_core.proofs.Taken.{batch_is, chain_open}
use Rattle.wq_core.proofs.laws.chain_and_batch.Goals as goal

pub returns : goal.returns
returns c = record { chain = chain_open; batch = batch_is }
