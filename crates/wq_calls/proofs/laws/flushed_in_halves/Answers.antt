use Rattle.wq_calls.proofs.Flushed.{flushed_later}
use Rattle.wq_calls.proofs.laws.flushed_in_halves.Goals as goal

pub returns : goal.returns
returns c = record { ended = λ k tries first wakes old mid h told. flushed_later k 0 first wakes old mid h told.0 told.1 }
