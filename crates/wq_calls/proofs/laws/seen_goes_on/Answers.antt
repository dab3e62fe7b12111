use Rattle.wq_calls.proofs.GoingOn.{sees_none, sees_on, sees_begins, answers_begin, posts_begin}
use Rattle.wq_calls.proofs.laws.seen_goes_on.Goals as goal

pub returns : goal.returns
returns c = record { none = sees_none; on = sees_on; begins = sees_begins; queued = answers_begin; posted = posts_begin }
