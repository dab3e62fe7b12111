-- What the senders of a queue were told, and what the queue has done in the end.
use Rattle.std.specs.Prelude.{◌≡◌, ℕ, ◌<◌, ◌≤◌, List, [], ◌∷◌, ◌++◌, length}
use Rattle.wq_words.specs.declared.layout.Layout.{Layout}
use Rattle.wq_words.specs.declared.answer.Answer.{Answer}
use Rattle.wq_words.specs.declared.answer.Answer.TheVariants as answer
use Rattle.wq_words.specs.declared.event.Event.{Event}
use Rattle.wq_words.specs.declared.event.Event.TheVariants.{Hold, Busy, Push, Back}
use Rattle.wq_words.specs.declared.event.Why.TheVariants as why
use Rattle.wq_words.specs.History.{accepted, begun, ended}
use Rattle.wq_words.specs.Legal.{IsLegal, IsComplete}
use Rattle.wq_words.specs.Headline.{KeepsHeadline}
use Rattle.wq_words.specs.Seen.{own}
use Rattle.wq_live.specs.Known.{QueueId, IsSame, new_sender}
use Rattle.wq_live.specs.Laws.{queued_number}
use Rattle.wq_worker.specs.State.{WorkerState, items_among}
use Rattle.wq_pool.specs.Known.{PoolState, IsCallerOf}
use Rattle.wq_pool.specs.Quiet.{IsQuiet}
use Rattle.example_pool.specs.declared.work.RunList.{RunList}
use Rattle.example_pool.specs.declared.queueing.SenderWithCaller.{SenderWithCaller}
use Rattle.example_pool.specs.declared.queueing.QueueSenders.{QueueSenders}
use Rattle.example_pool.specs.declared.queueing.Told.{Told}
use Rattle.example_pool.specs.declared.pool.Ended.{Ended}

-- the new senders 0 and 1 of one queue, which has four items at least, with callers of this pool and a number of one of its queues
pub record AreNewSenders (pool : PoolState (WorkerState RunList)) (senders : QueueSenders) : Type 0 where
  pub items : 4 ≤ senders.first.sender.layout.items
  pub first_is : senders.first.sender ≡ new_sender senders.first.sender.queue senders.first.sender.layout 0
  pub second_is : senders.second.sender ≡ new_sender senders.first.sender.queue senders.first.sender.layout 1
  pub callers : IsCallerOf pool.ready senders.first.caller × IsCallerOf pool.ready senders.second.caller
  pub queues : (senders.first.queue < length pool.workers) × (senders.second.queue < length pool.workers)

-- what sender s does in a queueing of k that has this answer
abbrev pub queueing : ℕ → ℕ → Answer → List Event
queueing s k (answer.Queued is_first is_waking) = Hold s k ∷ Push s k ∷ []
queueing s k answer.Pending = Busy s k ∷ []
queueing s k answer.Closed = Hold s k ∷ Back s k why.Closed ∷ []
queueing s k answer.Draining = Hold s k ∷ Back s k why.Draining ∷ []
queueing s k answer.Contended = Hold s k ∷ Back s k why.Contended ∷ []

-- by all that it has seen, sender s has made these two queueings, each with the answer that is told, and nothing else
abbrev pub DidAsTold : ℕ → ℕ → ℕ → Told → Type 0
DidAsTold s one two told = own s told.sender.seen ≡ queueing s one told.one ++ queueing s two told.two

-- the same sender has queued these items: just those of them were accepted whose queueing was answered Queued, in this order
pub record QueuedBoth (one two : ℕ) (seat : SenderWithCaller) (told : Told) : Type 0 where
  pub same : IsSame seat.sender told.sender
  pub tells : DidAsTold seat.sender.number one two told
  pub accepted_is : accepted (own seat.sender.number told.sender.seen) ≡ queued_number one told.one ++ queued_number two told.two

-- the senders 0 and 1 of this queue have queued their items
pub record HaveQueued (queue : QueueId) (first second : Told) : Type 0 where
  pub one_queue : (first.sender.queue ≡ queue) × (second.sender.queue ≡ queue)
  pub numbers : (first.sender.number ≡ 0) × (second.sender.number ≡ 1)
  pub first_tells : DidAsTold 0 0 1 first
  pub second_tells : DidAsTold 1 2 3 second
  pub of_first : accepted (own 0 first.sender.seen) ≡ queued_number 0 first.one ++ queued_number 1 first.two
  pub of_second : accepted (own 1 second.sender.seen) ≡ queued_number 2 second.one ++ queued_number 3 second.two

-- A legal and complete history of the very queue whose senders and whose work these are. All that was accepted began and
-- ended, in order; the work ran the items of it; each sender made its queueings, each with the answer that is told; of each just
-- those were accepted whose queueing was answered Queued; and none was of the worker's own, whose seats are sender 3 and the owner.
pub record RanAll (layout : Layout) (h : List Event) (queue : Ended) : Type 0 where
  pub legal : IsLegal layout h
  pub complete : IsComplete h
  pub headline : KeepsHeadline h
  pub one_queue : (queue.first.sender.queue ≡ queue.book.queue) × (queue.second.sender.queue ≡ queue.book.queue)
  pub all_began : begun h ≡ accepted h
  pub all_ended : ended h ≡ begun h
  pub all_ran : queue.work.ran.items ≡ items_among layout (accepted h)
  pub first_tells : DidAsTold 0 0 1 queue.first
  pub second_tells : DidAsTold 1 2 3 queue.second
  pub of_first : accepted (own 0 h) ≡ queued_number 0 queue.first.one ++ queued_number 1 queue.first.two
  pub of_second : accepted (own 1 h) ≡ queued_number 2 queue.second.one ++ queued_number 3 queue.second.two
  pub of_worker : IsQuiet 3 h
