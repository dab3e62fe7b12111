use Rattle.wq_pool.proofs.Common.{◌≡◌, vec_len, All}
use Rattle.wq_pool.proofs.pool.PoolOf.lay_all.Given as goal

abbrev pub invariant-loop-worked : goal.invariant-loop-worked
invariant-loop-worked g l = All (λ t. t.slots ≡ l.self.slots) l.all.items

abbrev pub decreases-loop-worked : goal.decreases-loop-worked
decreases-loop-worked g l = vec_len l.all
