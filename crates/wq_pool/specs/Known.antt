-- What a clause sees of slots, and of a queue in hand.
use Rattle.std.specs.Prelude.{◌≡◌, ℕ, List, Some, slice_get}
use mathlib.Core.List.{IsPrefix}
use Rattle.atomic_table.specs.Seated.{TableId}
use Rattle.wq_ready.specs.Known.{Identity}
pub use Rattle.wq_live.specs.Known.{IsSame}
pub use Rattle.wq_ready.specs.Known.{IsCallerOf}
use Rattle.wq_words.specs.declared.event.Event.{Event}
use Rattle.wq_worker.specs.Rows.{Along}
use Rattle.wq_worker.specs.State.{WorkerState}
use Rattle.wq_turn.specs.declared.worker_id.WorkerId.{WorkerId}
use Rattle.wq_turn.specs.WorkerId.{worker_id}

-- which slots they are, and which workers were handed in, by place, and what each was then
pub record SlotsState (K : Type 0) : Type 0 where
  pub id : TableId
  pub workers : List WorkerId
  pub states : List K

-- which slots and which ready queue it has, and which workers were handed in, by place, and what each was then
pub record PoolState (K : Type 0) : Type 0 where
  pub slots : TableId
  pub ready : Identity
  pub workers : List WorkerId
  pub states : List K

-- whose slots it is of, the number of its queue, and the worker
pub record TurnState (K : Type 0) : Type 0 where
  pub slots : TableId
  pub queue : ℕ
  pub worker : K

abbrev pub queue_in_turn : {K : Type 0} → TurnState K → ℕ
queue_in_turn t = t.queue

-- `state` says what a worker is without values
module _ {K W : Type 0} (state : K → WorkerState W) where
  abbrev pub id_of : K → WorkerId
  id_of k = worker_id (state k)

  abbrev pub turn_id : TurnState K → WorkerId
  turn_id t = id_of t.worker

  abbrev pub seen_by : K → List Event
  seen_by k = (state k).seen

  -- it is the same queue of the same slots, with the same worker, which has seen at least what it had seen
  pub record IsSameTurn (t u : TurnState K) : Type 0 where
    pub slots_is : u.slots ≡ t.slots
    pub queue_is : u.queue ≡ t.queue
    pub worker_is : turn_id u ≡ turn_id t
    pub begins : IsPrefix (seen_by t.worker) (seen_by u.worker)

-- `deals` says what one step does
module _ {K W : Type 0} (state : K → WorkerState W) (deals : K → K → Type 0) where
  -- It goes on from what stands at the place q: it has seen at least what that had seen, and became what it is step by step.
  pub record GoesOnAt (states : List K) (q : ℕ) (w : K) : Type 0 where
    pub old : K
    pub old_is : slice_get states q ≡ Some old
    pub begins : IsPrefix (seen_by state old) (seen_by state w)
    pub along : Along deals old w
