use Rattle.wq_pool.proofs.GoingOn.{goes_between}
use Rattle.wq_pool.proofs.pool.PoolOf.run.Goals as goal

pub returns-clause-callers : goal.returns-clause-callers
returns-clause-callers g c = λ i d low. let e = (c.for_each_mut.ensures i d low).1 in goes_between _ _ _ _ e.argument_is e.left e.call
