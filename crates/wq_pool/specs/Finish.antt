-- What the end of a pool says.
use Rattle.std.specs.Prelude.{◌≡◌, ℕ, zero, suc, ◌<◌, ◌≤◌, List, Option, Some, None, All, map, take, length, slice_get}
use Rattle.wq_words.specs.History.{IsRunning}
use Rattle.wq_words.specs.Legal.{IsComplete}
use Rattle.wq_ledger.specs.Book.{BookState}
use Rattle.wq_worker.specs.Rows.{Along}
use Rattle.wq_worker.specs.State.{WorkerState}
use Rattle.wq_pool.specs.declared.finish.PoolFaultOf.{PoolFaultOf}
use Rattle.wq_pool.specs.declared.finish.PoolFaultOf.TheVariants.{Out, Unfinished, Memory}
use Rattle.wq_turn.specs.declared.worker_id.WorkerId.{WorkerId}
use Rattle.wq_pool.specs.Known.{SlotsState, PoolState, TurnState, turn_id, GoesOnAt}
use Rattle.wq_pool.specs.Slots.{IsWorkerAt}
use Rattle.wq_pool.specs.Finished.{ArePartsOf}
use Rattle.wq_turn.specs.Drained.{IsDrained, ClosesAndWorks}
use Rattle.wq_turn.specs.Steps.{EndsJust}

-- the first queue of which something is left, with one queue more
abbrev pub FirstLeft : Option (ℕ × ℕ) → ℕ → ℕ → Option (ℕ × ℕ) → Type 0
FirstLeft (Some first) q more new = new ≡ Some first
FirstLeft None q zero new = new ≡ None
FirstLeft None q (suc more) new = new ≡ Some (q, suc more)

-- `state` says what a worker is without values, `deals` what one step does
module _ {K W : Type 0} (state : K → WorkerState W) (deals : K → K → Type 0) where
  -- the first queues of these slots, in hand
  pub record AreFirst (slots : SlotsState K) (turns : List (TurnState K)) : Type 0 where
    pub few : length turns ≤ length slots.workers
    pub slots_are : All (λ (t : TurnState K). t.slots ≡ slots.id) turns
    pub workers_are : map (turn_id state) turns ≡ take (length turns) slots.workers
    pub go_on : (q : ℕ) (t : TurnState K) → slice_get turns q ≡ Some t → GoesOnAt state deals slots.states q t.worker

-- `state` says what a worker is without values
module _ {K W : Type 0} (state : K → WorkerState W) where
  abbrev pub AreComplete : List (TurnState K) → Type 0
  AreComplete turns = All (λ (t : TurnState K). IsComplete (state t.worker).seen) turns

-- `may`, `gives` and `deals` say what the steps of a worker may do; as many executions may end as the limit says
module _ {K W : Type 0} (state : K → WorkerState W) (may : W → ℕ → List ℕ → W → Type 0) (gives : W → W → Type 0) (deals : K → K → Type 0)
    (limit : ℕ) where
  -- The worker at this place as a drain left it. It went on from what it was when it was handed in, and nothing ran; the
  -- queue was closed where it was not, and the worker then worked on, by up to so many executions.
  pub record WasDrainedAt (workers : List WorkerId) (states : List K) (q : ℕ) (worker : K) : Type 0 where
    pub start : K
    pub start_is : IsWorkerAt state workers q start
    pub goes_on : GoesOnAt state deals states q start
    pub worker_is : IsWorkerAt state workers q worker
    pub idle : ¬ IsRunning (state start).seen
    pub works : ClosesAndWorks may gives limit (state start) (state worker)
    pub dealt : Along deals start worker

  -- so many queues, the first of these, were drained
  abbrev pub FirstWereDrained : List WorkerId → List K → ℕ → Type 0
  FirstWereDrained workers states count = (q : ℕ) → q < count → (worker : K) × WasDrainedAt workers states q worker

  -- the queue at this place was drained, and has run to its end
  abbrev pub HasEndedAt : List WorkerId → List K → ℕ → Type 0
  HasEndedAt workers states q = (worker : K) × WasDrainedAt workers states q worker × IsComplete (state worker).seen

  -- So much was left to the worker at this place by its drain, after just as many executions as the limit says; each queue before
  -- it has run to its end.
  pub record IsLeftTo (workers : List WorkerId) (states : List K) (q left : ℕ) (worker : K) : Type 0 where
    pub drained : WasDrainedAt workers states q worker
    pub left_is : IsDrained left (state worker)
    pub some_left : 0 < left
    pub executed : EndsJust limit (state drained.start).seen (state worker).seen
    pub before : (p : ℕ) → p < q → HasEndedAt workers states p

  abbrev pub IsLeftAt : List WorkerId → List K → ℕ → ℕ → Type 0
  IsLeftAt workers states q left = (worker : K) × IsLeftTo workers states q left worker

  -- the queues in hand were drained, each at its place
  abbrev pub WereDrained : List WorkerId → List K → List (TurnState K) → Type 0
  WereDrained workers states turns = (q : ℕ) (t : TurnState K) → slice_get turns q ≡ Some t → WasDrainedAt workers states q t.worker

  -- nothing is left of all these, or something of one of them
  abbrev pub LeavesOf : List WorkerId → List K → List (TurnState K) → Option (ℕ × ℕ) → Type 0
  LeavesOf workers states turns None = AreComplete state turns
  LeavesOf workers states turns (Some left) = (t : TurnState K) × (slice_get turns left.0 ≡ Some t) × IsLeftTo workers states left.0 left.1 t.worker

  -- of each queue that was drained the work of its worker, and the book
  abbrev pub ComeFromDrains : {B : Type 0} → (B → BookState) → (K → B → Type 0) → List WorkerId → List K → List (W × B) → Type 0
  ComeFromDrains {B} book has_brought workers states all = (q : ℕ) (parts : W × B) → slice_get all q ≡ Some parts
      → (worker : K) × WasDrainedAt workers states q worker × ArePartsOf state book has_brought worker parts

  -- The same pool is given back: with a queue that is out, and those before it drained; or all drained, and something left of one.
  abbrev pub IsPoolFault : {B : Type 0} → PoolState K → PoolFaultOf K W B → Type 0
  IsPoolFault pool (Out back q) = (back ≡ pool) × (q < length pool.workers) × FirstWereDrained pool.workers pool.states q
  IsPoolFault pool (Unfinished back q left) =
      (back ≡ pool) × IsLeftAt pool.workers pool.states q left × FirstWereDrained pool.workers pool.states (length pool.workers)
  IsPoolFault pool (Memory back) = back ≡ pool
