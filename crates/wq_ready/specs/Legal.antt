-- Which histories a ready queue can have.
use Rattle.std.specs.Prelude.{◌≡◌, ℕ, ◌<◌, List, take, Some, slice_get}
use Rattle.wq_ready.specs.declared.size.Size.{Size}
use Rattle.wq_ready.specs.declared.event.ReadyEvent.{ReadyEvent}
use Rattle.wq_ready.specs.declared.event.ReadyEvent.TheVariants.{Announce, Pick}
use Rattle.wq_ready.specs.History.{caller_of, queue_of, next_queue, IsFull}

-- the event may come after the events h
abbrev pub MayFollowReady : ℕ → List ReadyEvent → ReadyEvent → Type 0
MayFollowReady queues h (Announce c q) = ¬ IsFull queues h
MayFollowReady queues h (Pick c q) = next_queue h ≡ Some q

-- its caller and its queue are there, and it may follow
pub record IsReadyAllowed (size : Size) (h : List ReadyEvent) (e : ReadyEvent) : Type 0 where
  pub has_caller : caller_of e < size.callers
  pub has_queue : queue_of e < size.queues
  pub follows : MayFollowReady size.queues h e

-- each event is allowed by the events before it
pub record IsReadyLegal (size : Size) (h : List ReadyEvent) : Type 0 where
  pub allows : (place : ℕ) (e : ReadyEvent) → slice_get h place ≡ Some e → IsReadyAllowed size (take place h) e
