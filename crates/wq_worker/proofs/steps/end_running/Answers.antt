use Rattle.wq_worker.proofs.Common.{[], ◌∷◌, End}
use Rattle.wq_worker.proofs.Pair.{by_owner}
use Rattle.wq_worker.proofs.steps.end_running.Goals as goal

pub returns-clause-both : goal.returns-clause-both
returns-clause-both g c k is = let e = c.end.ensures in by_owner (End k ∷ []) 0 0 _ _ (e.seen k is) e.others
