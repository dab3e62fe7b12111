-- What the calls of a pool say.
use Rattle.std.specs.Prelude.{◌≡◌, ◌⊎◌, ℕ, ◌<◌, Bool, false}
use mathlib.Core.List.{IsPrefix}
use Rattle.wq_words.specs.declared.answer.Answer.{Answer}
use Rattle.wq_words.specs.declared.answer.Answer.TheVariants.{Queued}
use Rattle.wq_ready.specs.Known.{CallerState, IsSameCaller}
use Rattle.wq_worker.specs.State.{WorkerState}
use Rattle.wq_pool.specs.Known.{PoolState, TurnState, GoesOnAt}
use Rattle.wq_pool.specs.Slots.{IsWorkerAt}

-- no pool has so many queues
abbrev pub IsNoPool : ℕ → Type 0
IsNoPool count = (count ≡ 0) ⊎ (256 < count)

-- The very queue of its number, in hand: its worker goes on from what it was when it was handed in. `state` says what a worker is
-- without values, `deals` what one step does.
pub record IsTurnOf {K W : Type 0} (state : K → WorkerState W) (deals : K → K → Type 0) (pool : PoolState K) (turn : TurnState K) : Type 0 where
  pub slots_is : turn.slots ≡ pool.slots
  pub worker_is : IsWorkerAt state pool.workers turn.queue turn.worker
  pub goes_on : GoesOnAt state deals pool.states turn.queue turn.worker

-- the number was queued, and its queue rested
abbrev pub says_wakes : Answer → Bool
says_wakes (Queued is_first is_waking) = is_waking
says_wakes _ = false

-- the same caller, who has seen at least what it had seen
pub record GoesOnFrom (old new : CallerState) : Type 0 where
  pub same : IsSameCaller old new
  pub begins : IsPrefix old.seen new.seen
