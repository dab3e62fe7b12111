-- The rule of the slots, and what their steps tell.
use Rattle.std.specs.Prelude.{◌≡◌, ℕ, ◌<◌, ◌==◌, List, [], ◌∷◌, Option, Some, None, map, length, slice_index, slice_get, MatchBool}
use mathlib.Core.Option.{some}
use lib.ListN.{get_elem?}
use Rattle.atomic_table.specs.Table.{State, Me, Step}
use Rattle.wq_worker.specs.State.{WorkerState}
use Rattle.wq_pool.specs.declared.slots.QueueHand.{QueueHand}
use Rattle.wq_pool.specs.declared.slots.HandedIn.{HandedIn}
use Rattle.wq_turn.specs.declared.worker_id.WorkerId.{WorkerId}
use Rattle.wq_pool.specs.Known.{id_of, GoesOnAt}

abbrev pub empty_hand : {K : Type 0} → HandedIn K → QueueHand K
empty_hand handed = record { queue = None; handed = handed }

abbrev pub hand_with : {K : Type 0} → HandedIn K → ℕ → QueueHand K
hand_with handed q = record { queue = Some q; handed = handed }

-- what a seat is to the slots
abbrev pub SlotSat : Type 0 → Type 0
SlotSat K = Me (Option K) (QueueHand K)

-- a new seat has nothing in hand
abbrev pub comes_in : {K : Type 0} → Step (Option K) → SlotSat K → ℕ → SlotSat K → Type 0
comes_in {K} step old found new = new.0 ≡ old.0

abbrev pub lays_down : {K : Type 0} → Step (Option K) → SlotSat K → ℕ → SlotSat K → Type 0
lays_down {K} step old found new = new ≡ (empty_hand old.0.handed, [])

-- `state` says what a worker is without values
module _ {K W : Type 0} (state : K → WorkerState W) where
  -- it is the worker at the place q
  abbrev pub IsWorkerAt : List WorkerId → ℕ → K → Type 0
  IsWorkerAt workers q w = slice_get workers q ≡ Some (id_of state w)

  abbrev pub handed_of : List K → HandedIn K
  handed_of ws = record { workers = map (id_of state) ws; states = ws }

-- `deals` says what one step does
module _ {K W : Type 0} (state : K → WorkerState W) (deals : K → K → Type 0) where
  -- it is the worker that was handed in at the place q, and goes on from what it was then
  pub record IsHandedAt (handed : HandedIn K) (q : ℕ) (w : K) : Type 0 where
    pub worker_is : IsWorkerAt state handed.workers q w
    pub goes_on : GoesOnAt state deals handed.states q w

  -- A word is 0 while its queue is in its slot. Then it is the worker that was handed in at this place; else one seat, the
  -- keeper, has it in hand.
  pub record KeptSlots (handed : HandedIn K) (s : State (Option K) (QueueHand K)) : Type 0 where
    pub words_count : length s.words ≡ length handed.workers
    pub slots_count : length s.homes ≡ length handed.workers
    pub keeper : ℕ → ℕ
    pub in_slot : (q : ℕ) → q < length handed.workers → slice_index s.words q ≡ 0
        → (w : K) × (get_elem? s.homes q ≡ some (some (Some w))) × IsHandedAt handed q w
    pub told : (seat : ℕ) (hand : QueueHand K) → get_elem? s.views seat ≡ some hand → hand.handed ≡ handed
    pub in_hand : (seat : ℕ) (hand : QueueHand K) → get_elem? s.views seat ≡ some hand → (q : ℕ) → hand.queue ≡ Some q
        → (q < length handed.workers) × (slice_index s.words q ≡ 1) × (keeper q ≡ seat)

  -- it has the queue of this word in hand, where the word was 0
  abbrev pub picks_up : Step (Option K) → SlotSat K → ℕ → SlotSat K → Type 0
  picks_up step old found new = MatchBool (found == 0)
      ((new.0 ≡ hand_with old.0.handed step.word) × (w : K) × (new.1 ≡ (step.word, Some w) ∷ []) × IsHandedAt old.0.handed step.word w)
      (new ≡ old)
