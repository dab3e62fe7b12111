-- What a clause sees of the fields of slots and of queues in hand, and what always holds of them.
use Rattle.std.specs.Prelude.{◌≡◌, ℕ, ◌<◌, [], ◌∷◌, None, map, length}
use Rattle.atomic_table.specs.Seated.{TableId}
use Rattle.wq_worker.specs.State.{WorkerState}
use Rattle.wq_pool.specs.declared.slots.QueueSlots.TheInside as slots
use Rattle.wq_pool.specs.declared.turn.TurnOf.TheInside as turn
use Rattle.wq_pool.specs.declared.turn.WorkedOf.TheInside as worked
use Rattle.wq_pool.specs.Known.{SlotsState, TurnState, id_of}
use Rattle.wq_pool.specs.Slots.{SlotSat, hand_with, IsHandedAt}

abbrev pub turn_view : {K W B : Type 0} → turn.Inside K W B → TurnState K
turn_view t = record { slots = t.seat.table_id; queue = t.queue; worker = t.runner }

abbrev pub worked_view : {K W B : Type 0} → worked.Inside K W B → TurnState K
worked_view t = record { slots = t.seat.table_id; queue = t.queue; worker = t.served }

-- `state` says what a worker is without values
module _ {K W : Type 0} (state : K → WorkerState W) where
  abbrev pub slots_view : {B : Type 0} → slots.Inside K W B → SlotsState K
  slots_view s = record {
    id = s.table.shared.table_id;
    workers = map (id_of state) s.table.shared.key.value.items;
    states = s.table.shared.key.value.items;
  }

  -- there is a word and a slot for each
  pub record AreSlots {B : Type 0} (s : slots.Inside K W B) : Type 0 where
    pub words_count : s.table.shared.table_id.words ≡ s.count
    pub slots_count : s.table.shared.table_id.slots ≡ s.count
    pub count_is : length (map (id_of state) s.table.shared.key.value.items) ≡ s.count

-- `deals` says what one step does
module _ {K W : Type 0} (state : K → WorkerState W) (deals : K → K → Type 0) where
  -- the seat has taken the slot of this queue alone, and the worker is the one that was handed in there
  pub record IsInHand (id : TableId) (seat : SlotSat K) (q : ℕ) (w : K) : Type 0 where
    pub taken : seat ≡ (hand_with seat.0.handed q, (q, None) ∷ [])
    pub within : q < id.words
    pub worker_is : IsHandedAt state deals seat.0.handed q w

  abbrev pub IsTurn : {B : Type 0} → turn.Inside K W B → Type 0
  IsTurn t = IsInHand t.seat.table_id t.seat.me t.queue t.runner

  abbrev pub IsWorked : {B : Type 0} → worked.Inside K W B → Type 0
  IsWorked t = IsInHand t.seat.table_id t.seat.me t.queue t.served
