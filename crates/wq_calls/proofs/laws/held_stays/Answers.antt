use Rattle.wq_calls.proofs.Sends.{sees_held}
use Rattle.wq_calls.proofs.Held.{tested_held, queued_held, posted_held, given_held}
use Rattle.wq_calls.proofs.laws.held_stays.Goals as goal

pub returns : goal.returns
returns c = record { seen = sees_held; held = tested_held; queued = queued_held; posted = posted_held; given = given_held }
