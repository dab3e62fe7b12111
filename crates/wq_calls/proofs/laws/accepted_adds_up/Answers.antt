use Rattle.wq_words.proofs.SeatBySeat.{accepted_over_seats}
use Rattle.wq_calls.proofs.laws.accepted_adds_up.Goals as goal

pub returns : goal.returns
returns c = record { sums = accepted_over_seats }
