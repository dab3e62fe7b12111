use Rattle.wq_ready.proofs.Common.{IsFull, IsEmpty}
use Rattle.wq_ready.proofs.Seen.{could_be_alone}
use Rattle.wq_ready.proofs.laws.alone.Goals as goal

pub returns : goal.returns
returns c = record { full = λ caller. could_be_alone (IsFull caller.ready.size.queues) caller; empty = could_be_alone IsEmpty }
