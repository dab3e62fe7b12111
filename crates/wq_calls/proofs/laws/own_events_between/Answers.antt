use Rattle.wq_words.proofs.Seen.{own_between}
use Rattle.wq_calls.proofs.laws.own_events_between.Goals as goal

pub returns : goal.returns
returns c = record { same = own_between }
