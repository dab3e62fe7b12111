use Rattle.wq_seats.proofs.Summing.{sums_balance}
use Rattle.wq_seats.proofs.laws.counts_balance.Goals as goal

pub returns : goal.returns
returns c = record { balance = sums_balance }
