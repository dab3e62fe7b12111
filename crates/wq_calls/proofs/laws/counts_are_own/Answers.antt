use Rattle.wq_calls.proofs.OwnCounts.{sender_counts-own, owner_counts-own}
use Rattle.wq_calls.proofs.laws.counts_are_own.Goals as goal

pub returns : goal.returns
returns c = record { sender = sender_counts-own; owner = owner_counts-own }
