use Rattle.wq_calls.proofs.Refused.{answered_closed, posted_closed}
use Rattle.wq_calls.proofs.laws.closed_is_closed.Goals as goal

pub returns : goal.returns
returns c = record { queued = answered_closed; posted = posted_closed }
