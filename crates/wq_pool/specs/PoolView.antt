-- What a clause sees of a pool's fields.
use Rattle.std.specs.Prelude.{◌≡◌, length}
use Rattle.wq_pool.specs.declared.pool.PoolOf.TheInside.{Inside}
use Rattle.wq_pool.specs.Known.{PoolState}

abbrev pub pool_view : {K W B : Type 0} → Inside K W B → PoolState K
pool_view p = record { slots = p.slots.id; ready = p.ready; workers = p.slots.workers; states = p.slots.states }

-- the ready queue has room for each queue
pub record HasReadyQueue {K W B : Type 0} (p : Inside K W B) : Type 0 where
  pub count_is : p.ready.size.queues ≡ length p.slots.workers
