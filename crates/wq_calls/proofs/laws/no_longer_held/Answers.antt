use Rattle.wq_calls.proofs.Held.{posted_stops, queued_stops, given_stops}
use Rattle.wq_calls.proofs.laws.no_longer_held.Goals as goal

pub returns : goal.returns
returns c = record { posted = posted_stops; queued = queued_stops; given = given_stops }
