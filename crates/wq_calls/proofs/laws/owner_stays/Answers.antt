use Rattle.wq_calls.proofs.OwnerStays.{still_owned, shut_end}
use Rattle.wq_calls.proofs.laws.owner_stays.Goals as goal

pub returns : goal.returns
returns c = record { owned = still_owned; shut = shut_end }
