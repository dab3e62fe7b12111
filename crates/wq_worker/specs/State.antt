-- What a clause sees of a worker.
use Rattle.std.specs.Prelude.{◌≡◌, ℕ, ◌<◌, ◌≤◌, List, [], filter, length, nat_lt}
use Rattle.wq_live.specs.Known.{QueueId}
use Rattle.wq_words.specs.declared.layout.Layout.{Layout}
use Rattle.wq_words.specs.declared.event.Event.{Event}
use Rattle.wq_words.specs.History.{begun, IsRunning}
use Rattle.wq_words.specs.Legal.{IsLegal}
use Rattle.wq_words.specs.Seen.{owner_seat, own}
use Rattle.wq_live.specs.Known.{Known}
use Rattle.wq_worker.specs.Seats.{Adds}
use Rattle.wq_live.specs.Pairs.{KnownPair}

-- which queue it is of, how large that is, its sender's number, the tries of a queueing, the history that its two seats have
-- seen, what an execution that has not ended has still to queue, and the work
pub record WorkerState (W : Type 0) : Type 0 where
  pub queue : QueueId
  pub layout : Layout
  pub number : ℕ
  pub tries : ℕ
  pub seen : List Event
  pub unqueued : List ℕ
  pub work : W

-- the items among the numbers, without barriers and the stop item
abbrev pub items_among : Layout → List ℕ → List ℕ
items_among layout ks = filter (λ k. nat_lt k layout.items) ks

-- a worker of this owner, this sender and this work, with so many tries, which has nothing left to queue
abbrev pub IsMadeOf : {W : Type 0} → Known → Known → W → ℕ → WorkerState W → Type 0
IsMadeOf owner sender work tries w =
    (w.queue ≡ owner.queue) × (w.layout ≡ owner.layout) × (w.number ≡ sender.number) × (w.tries ≡ tries) × (w.unqueued ≡ []) × (w.work ≡ work)

-- a worker of a new queue of this size with this work, with so many tries: its two seats have made no event, and nothing runs
pub record IsNew {W : Type 0} (layout : Layout) (work : W) (tries : ℕ) (w : WorkerState W) : Type 0 where
  pub layout_is : w.layout ≡ layout
  pub tries_is : w.tries ≡ tries
  pub unqueued_is : w.unqueued ≡ []
  pub work_is : w.work ≡ work
  pub legal : IsLegal w.layout w.seen
  pub idle : ¬ IsRunning w.seen
  pub untouched : own owner_seat w.seen ≡ []
  pub unsent : own w.number w.seen ≡ []

-- it is the same worker
pub record IsSameWorker {W : Type 0} (a b : WorkerState W) : Type 0 where
  pub queue_is : b.queue ≡ a.queue
  pub layout_is : b.layout ≡ a.layout
  pub number_is : b.number ≡ a.number
  pub tries_is : b.tries ≡ a.tries

-- it is the same worker, whose two seats added the events xs, in this order, and at least n came of other seats
pub record Moves {W : Type 0} (xs : List Event) (n : ℕ) (a b : WorkerState W) : Type 0 where
  pub queue : b.queue ≡ a.queue
  pub layout : b.layout ≡ a.layout
  pub number : b.number ≡ a.number
  pub tries : b.tries ≡ a.tries
  pub adds : Adds a.number xs n a.seen b.seen
  pub legal : IsLegal b.layout b.seen

-- what holds of a worker's parts: its number is below the senders, and the work has run the items that have begun
pub record AreWorkerParts (log : List ℕ) (tries : ℕ) (at : ℕ) (follow : List ℕ) (p : KnownPair) : Type 0 where
  pub legal : IsLegal p.layout p.seen
  pub numbered : p.number < p.layout.senders
  pub some_try : 0 < tries
  pub within : at ≤ length follow
  pub logged : log ≡ items_among p.layout (begun p.seen)
