use Rattle.wq_calls.proofs.Growing.{grows_own}
use Rattle.wq_calls.proofs.laws.own_events_grow.Goals as goal

pub returns : goal.returns
returns c = record { grows = λ n xs old new sees. grows_own old.number xs n old.seen new.seen sees.grows }
