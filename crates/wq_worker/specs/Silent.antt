-- What follows for a worker whose work asks for nothing.
use Rattle.std.specs.Prelude.{◌≡◌, ℕ, ◌<◌, List, [], count_by}
use mathlib.Core.List.{IsPrefix}
use Rattle.wq_words.specs.declared.event.Event.{Event}
use Rattle.wq_words.specs.Counting.{is_chain, is_chain_busy}
use Rattle.wq_words.specs.History.{accepted, IsRunning}
use Rattle.wq_words.specs.Seen.{owner_seat, own}
use Rattle.wq_worker.specs.State.{WorkerState}
use Rattle.wq_worker.specs.Rows.{RowBy, IsExecution, Closes}

-- no run answers a number to queue
abbrev pub AsksForNothing : {W : Type 0} → (W → ℕ → List ℕ → W → Type 0) → Type 0
AsksForNothing {W} may = (w : W) (k : ℕ) (f : List ℕ) (v : W) → may w k f v → f ≡ []

-- What was seen goes on from v to w. In what came new the sender s made no event, and the owner chained no number and tried to
-- chain none.
pub record AddsNoNumber (s : ℕ) (v w : List Event) : Type 0 where
  pub begins : IsPrefix v w
  pub unsent : own s w ≡ own s v
  pub owned : accepted (own owner_seat w) ≡ accepted (own owner_seat v)
  pub unchained : count_by is_chain w ≡ count_by is_chain v
  pub unasked : count_by is_chain_busy w ≡ count_by is_chain_busy v

-- by steps of this kind a worker of which nothing runs queues and chains no number, and then nothing runs
abbrev pub QueuesNoneBy : {W : Type 0} → (WorkerState W → WorkerState W → Type 0) → Type 0
QueuesNoneBy {W} steps = (a b : WorkerState W) → a.number < a.layout.senders → ¬ IsRunning a.seen → steps a b
    → AddsNoNumber a.number a.seen b.seen × (¬ IsRunning b.seen)

-- the queue is closed where it was not, and n executions follow, as in every destroy
abbrev pub ClosesAndRuns : {W : Type 0} → (W → ℕ → List ℕ → W → Type 0) → (W → W → Type 0) → ℕ → WorkerState W → WorkerState W → Type 0
ClosesAndRuns {W} may gives n a c = (b : WorkerState W) × Closes a b × RowBy may gives IsExecution n b c
