-- Seats of one queue, and the history that all of them know.
use Rattle.std.specs.Prelude.{◌≡◌, ℕ, ◌+◌, ◌<◌, List, length, All, slice_index_or}
use mathlib.Core.List.{IsPrefix}
use Rattle.wq_live.specs.Known.{QueueId}
use Rattle.wq_words.specs.declared.layout.Layout.{Layout}
use Rattle.wq_words.specs.declared.event.Event.{Event}
use Rattle.wq_words.specs.Legal.{IsLegal}
use Rattle.wq_words.specs.Seen.{owner_seat, own}
use Rattle.wq_live.specs.Known.{Known}
use Rattle.wq_worker.specs.State.{WorkerState}
use Rattle.wq_delay.specs.Delay.{DelayState}
use Rattle.wq_script.specs.declared.seats.Seats.{Seats}
use Rattle.wq_live.specs.Known.{IsSame}

-- the same seat, which may have seen more, and has made no event
pub record StaysSilent (old new : Known) : Type 0 where
  pub same : IsSame old new
  pub begins : IsPrefix old.seen new.seen
  pub mine : own old.number new.seen ≡ own old.number old.seen

-- such a seat, which has seen this much since
pub record Hears (told : List Event) (old new : Known) : Type 0 where
  pub stays : StaysSilent old new
  pub knows : IsPrefix told new.seen

-- as many seats, and each hears
pub record AllHear (told : List Event) (olds news : List Known) : Type 0 where
  pub count : length news ≡ length olds
  pub each : (i : ℕ) (d : Known) → i < length olds → Hears told (slice_index_or olds i d) (slice_index_or news i d)

-- the seat of the queue with this number, which has seen the history and made no event after it
pub record IsAt (queue : QueueId) (layout : Layout) (c : ℕ) (h : List Event) (k : Known) : Type 0 where
  pub queue_is : k.queue ≡ queue
  pub layout_is : k.layout ≡ layout
  pub number_is : k.number ≡ c
  pub begins : IsPrefix h k.seen
  pub mine : own c k.seen ≡ own c h

-- the two seats of a worker
abbrev pub worker_sender : {W : Type 0} → WorkerState W → Known
worker_sender w = record { queue = w.queue; layout = w.layout; number = w.number; seen = w.seen }

abbrev pub worker_owner : {W : Type 0} → WorkerState W → Known
worker_owner w = record { queue = w.queue; layout = w.layout; number = owner_seat; seen = w.seen }

-- what stands on the table, the tick and the next arming are the same
abbrev pub IsSameTable : DelayState → DelayState → Type 0
IsSameTable old new = new.table ≡ old.table

-- it is the same worker, and its work was not touched
pub record IsSameWork {W : Type 0} (old new : WorkerState W) : Type 0 where
  pub work_is : new.work ≡ old.work
  pub unqueued_is : new.unqueued ≡ old.unqueued
  pub tries_is : new.tries ≡ old.tries

-- they are of one queue
pub record AreOne (s : Seats) : Type 0 where
  pub senders : All (λ (k : Known). k.queue ≡ s.delay.sender.queue) s.senders.items
  pub worker : s.worker.queue ≡ s.delay.sender.queue

-- each seat hears this, and makes no event
pub record Publishes (told : List Event) (old new : Seats) : Type 0 where
  pub sender : Hears told (worker_sender old.worker) (worker_sender new.worker)
  pub owner : Hears told (worker_owner old.worker) (worker_owner new.worker)
  pub delay : Hears told old.delay.sender new.delay.sender
  pub senders : AllHear told old.senders.items new.senders.items
  pub work : IsSameWork old.worker new.worker
  pub table : IsSameTable old.delay new.delay
  pub legal : IsLegal new.worker.layout new.worker.seen

-- the layout of a queue with two senders more than a script has: the worker's and the delay table's
pub record IsWider (layout wide : Layout) : Type 0 where
  pub items : wide.items ≡ layout.items
  pub barriers : wide.barriers ≡ layout.barriers
  pub senders : wide.senders ≡ layout.senders + 2

-- The seats are those of one queue, each at its number, and all of them have seen the history, after which none made an event.
pub record Seated (layout : Layout) (s : Seats) (h : List Event) : Type 0 where
  pub queue : QueueId
  pub wide : Layout
  pub wider : IsWider layout wide
  pub legal : IsLegal wide h
  pub count : length s.senders.items ≡ layout.senders
  pub senders : (i : ℕ) (d : Known) → i < layout.senders → IsAt queue wide i h (slice_index_or s.senders.items i d)
  pub sender : IsAt queue wide layout.senders h (worker_sender s.worker)
  pub owner : IsAt queue wide owner_seat h (worker_owner s.worker)
  pub delay : IsAt queue wide (layout.senders + 1) h s.delay.sender
  pub tries : s.worker.tries ≡ 1
  pub seen : IsLegal wide s.worker.seen

-- there is such a history
abbrev pub HasHistory : Seats → Type 0
HasHistory s = (layout : Layout) × (h : List Event) × Seated layout s h
