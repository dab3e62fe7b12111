use Rattle.wq_calls.proofs.OwnerStays.{sender_counted, owner_counted}
use Rattle.wq_calls.proofs.laws.counts_stay.Goals as goal

pub returns : goal.returns
returns c = record { sender = sender_counted; owner = owner_counted }
