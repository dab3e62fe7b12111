-- What the owner was handed in the end, and what the senders queued.
use Rattle.std.specs.Prelude.{◌≡◌, ℕ, List, [], Option}
use Rattle.wq_words.specs.declared.layout.Layout.{Layout}
use Rattle.wq_words.specs.declared.event.Event.{Event}
use Rattle.wq_words.specs.History.{accepted, begun, ended}
use Rattle.wq_words.specs.Legal.{IsComplete}
use Rattle.wq_words.specs.Numbers.{stop_number}
use Rattle.wq_words.specs.Seen.{own, owner_seat}
use Rattle.wq_words.specs.Valued.{IsLegalWith, with_values}
use Rattle.wq_words.specs.Headline.{KeepsHeadline}
use Rattle.wq_values.specs.Known.{QueueId}
use Rattle.wq_values.specs.Laws.{queued_number}
use Rattle.wq_values.specs.OwnBrought.{own_brought}
use Rattle.example_values.specs.Messages.{BoxedNumber, numbers_of}
use Rattle.example_values.specs.declared.queueing.Told.{Told}
use Rattle.example_values.specs.declared.queueing.Stopped.{Stopped}
use Rattle.example_values.specs.declared.running.Met.{Met}

-- the sender of this number, of this queue: what its queueings brought is what it queued and was answered Queued for, in its order
pub record TellsBrought (queue : QueueId) (number : ℕ) (told : Told) : Type 0 where
  pub queue_is : told.sender.known.queue ≡ queue
  pub number_is : told.sender.known.number ≡ number
  pub brought_is : numbers_of (own_brought number told.sender.known.seen told.sender.brought) ≡ told.queued.items

-- the sender of this number, of this queue: of it the stop item alone was accepted, where that was answered Queued
pub record TellsStop (queue : QueueId) (layout : Layout) (number : ℕ) (stopped : Stopped) : Type 0 where
  pub queue_is : stopped.sender.known.queue ≡ queue
  pub number_is : stopped.sender.known.number ≡ number
  pub accepted_is : accepted (own number stopped.sender.known.seen) ≡ queued_number (stop_number layout) stopped.answer

-- A legal and complete history of the very queue whose senders these are, with the values that its events carry. All that was accepted
-- began and ended, in order; the messages that ran are those that were brought, in order; what each sender's queueings brought is what
-- it queued, in its order; and beside the stop item nothing else was accepted.
pub record HasHandedOver (layout : Layout) (h : List Event) (brought : List (Option BoxedNumber)) (met : Met) : Type 0 where
  pub legal : IsLegalWith layout (with_values h brought)
  pub complete : IsComplete h
  pub headline : KeepsHeadline h
  pub all_began : begun h ≡ accepted h
  pub all_ended : ended h ≡ begun h
  pub ran : numbers_of brought ≡ met.ran.ran.items
  pub first_tells : TellsBrought met.ran.owner.known.queue 0 met.first
  pub second_tells : TellsBrought met.ran.owner.known.queue 1 met.second
  pub last_tells : TellsStop met.ran.owner.known.queue layout 2 met.last
  pub of_first : numbers_of (own_brought 0 h brought) ≡ met.first.queued.items
  pub of_second : numbers_of (own_brought 1 h brought) ≡ met.second.queued.items
  pub of_last : accepted (own 2 h) ≡ queued_number (stop_number layout) met.last.answer
  pub nothing_else : accepted (own owner_seat h) ≡ []
