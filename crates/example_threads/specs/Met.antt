-- What the owner has seen in the end, and what the senders were answered.
use Rattle.std.specs.Prelude.{◌≡◌, ℕ, List, []}
use Rattle.wq_words.specs.declared.layout.Layout.{Layout}
use Rattle.wq_words.specs.declared.event.Event.{Event}
use Rattle.wq_words.specs.History.{accepted, begun, ended}
use Rattle.wq_words.specs.Legal.{IsLegal, IsComplete}
use Rattle.wq_words.specs.Headline.{KeepsHeadline}
use Rattle.wq_words.specs.Seen.{own, owner_seat}
use Rattle.wq_live.specs.Known.{QueueId, Known, IsSame}
use Rattle.example_threads.specs.declared.queueing.Told.{Told}
use Rattle.example_threads.specs.declared.running.Met.{Met}

-- the same sender has queued: what was accepted of it is what it queued and was answered Queued for, in its order
pub record QueuedAsTold (sender : Known) (told : Told) : Type 0 where
  pub same : IsSame sender told.sender
  pub accepted_is : accepted (own sender.number told.sender.seen) ≡ told.queued.items

-- the sender of this number, of this queue: what was accepted of it is what it queued and was answered Queued for, in its order
pub record TellsOwn (queue : QueueId) (number : ℕ) (told : Told) : Type 0 where
  pub queue_is : told.sender.queue ≡ queue
  pub number_is : told.sender.number ≡ number
  pub accepted_is : accepted (own number told.sender.seen) ≡ told.queued.items

-- A legal and complete history of the very queue whose senders these are. All that was accepted began and ended, in order. What was accepted of
-- each sender is what it queued and was answered Queued for, in its order, and nothing else was accepted.
pub record IsHistoryOf (layout : Layout) (h : List Event) (met : Met) : Type 0 where
  pub legal : IsLegal layout h
  pub complete : IsComplete h
  pub headline : KeepsHeadline h
  pub all_began : begun h ≡ accepted h
  pub all_ended : ended h ≡ begun h
  pub first_tells : TellsOwn met.owner.queue 0 met.first
  pub second_tells : TellsOwn met.owner.queue 1 met.second
  pub third_tells : TellsOwn met.owner.queue 2 met.third
  pub of_first : accepted (own 0 h) ≡ met.first.queued.items
  pub of_second : accepted (own 1 h) ≡ met.second.queued.items
  pub of_third : accepted (own 2 h) ≡ met.third.queued.items
  pub nothing_else : accepted (own owner_seat h) ≡ []
