-- What the seats of a race have done.
use Rattle.std.specs.Prelude.{◌≡◌, ◌≢◌, ℕ, zero, suc, ◌+◌, ◌*◌, ◌^◌, ◌<◌, ◌≤◌, List, [], ◌∷◌, ◌++◌, length, count_by, slice_index_or}
use Rattle.std.specs.List.{AllByRecursion, range_with_len}
use Rattle.std.specs.declared.thread.PromisedHandle.{PromisedHandle}
use mathlib.Core.List.{IsPrefix}
use Rattle.wq_words.specs.declared.layout.Layout.{Layout}
use Rattle.wq_words.specs.declared.event.Event.{Event}
use Rattle.wq_words.specs.declared.event.Event.TheVariants.{Hold, Busy, Push, Back}
use Rattle.wq_words.specs.declared.event.Why.TheVariants as why
use Rattle.wq_words.specs.Numbers.{stop_number}
use Rattle.wq_words.specs.History.{IsRunning, is_close, is_drain, ended}
use Rattle.wq_words.specs.Legal.{IsLegal}
use Rattle.wq_words.specs.Seen.{own, Grows}
use Rattle.wq_live.specs.declared.sender.Sender.{Sender}
use Rattle.wq_live.specs.Known.{QueueId, Known, IsSame}
use Rattle.wq_live.specs.Answers.{Answers}
use Rattle.wq_words.specs.declared.answer.Answer.{Answer}
use Rattle.wq_words.specs.declared.answer.Answer.TheVariants as answers
use Rattle.wq_words.specs.Counting.{is_chain, is_chain_busy}
use Rattle.wq_worker.specs.State.{WorkerState, IsSameWorker}
use Rattle.wq_plan.specs.declared.plan.Plan.{Plan}
use Rattle.wq_plan.specs.Plan.{IsLayoutOf}
use Rattle.wq_race.specs.declared.run_counter.RunCounter.{RunCounter}
use Rattle.wq_race.specs.declared.team.Team.{Team}
use Rattle.wq_race.specs.declared.race.QueuesOwn.{QueuesOwn}
use Rattle.wq_race.specs.Sends.{SendsAll}

-- the items of the sender s, where each has so many
abbrev pub items_at : ℕ → ℕ → List ℕ
items_at s own = range_with_len (s * own) own

-- A sender asked for each of these items in order, once each, and each was pushed, found pending or refused (`SendsAll`): that is
-- what "it queued its items" says of a race.
pub record HasQueued (items : List ℕ) (old new : Known) : Type 0 where
  pub same : IsSame old new
  pub events : List Event
  pub queued : SendsAll old.number items events
  pub grows : Grows old.number events 0 old.seen new.seen

-- the event is a sender's, and of the stop item
abbrev pub IsOfStop : Layout → Event → Type 0
IsOfStop layout (Hold s k) = k ≡ stop_number layout
IsOfStop layout (Busy s k) = k ≡ stop_number layout
IsOfStop layout (Push s k) = k ≡ stop_number layout
IsOfStop layout (Back s k why) = k ≡ stop_number layout
IsOfStop layout _ = ⊥

-- a sender made at most so many events, all of the stop item
pub record HasStopped (few : ℕ) (old new : Known) : Type 0 where
  pub same : IsSame old new
  pub events : List Event
  pub of_stop : AllByRecursion (IsOfStop old.layout) events
  pub few_events : length events ≤ few
  pub grows : Grows old.number events 0 old.seen new.seen

-- so many tries of the sender s to queue the number k, all in vain: each holds it, and gives it back after lost tries
abbrev pub tries_in_vain : ℕ → ℕ → ℕ → List Event
tries_in_vain zero s k = []
tries_in_vain (suc n) s k = Hold s k ∷ Back s k why.Contended ∷ tries_in_vain n s k

-- A sender's last try to queue the stop item was given this answer. Before it came nothing but tries in vain, in each of which
-- other seats made at least 2^32 - 1 events.
pub record IsStopAnswer (a : Answer) (old new : Known) : Type 0 where
  pub tries : ℕ
  pub few_tries : tries < 2 ^ 32
  pub between : Known
  pub same : IsSame old between
  pub before : Grows old.number (tries_in_vain tries old.number (stop_number old.layout)) (tries * 4294967295) old.seen between.seen
  pub last : Answers (stop_number old.layout) 4294967295 a between new

-- a sender queued the stop item, until it was given an answer other than Contended
pub record HasQueuedStop (old new : Known) : Type 0 where
  pub stopped : HasStopped (2 * 2 ^ 32) old new
  pub answer : Answer
  pub answered : IsStopAnswer answer old new
  pub settled : answer ≢ answers.Contended

-- the stop item is the last that ended
abbrev pub EndsWithStop : Layout → List Event → Type 0
EndsWithStop layout h = (before : List ℕ) × (ended h ≡ before ++ stop_number layout ∷ [])

-- the history goes on from the old one, and in what came new the sender s made no event and the owner chained nothing
pub record QueuesNothing (s : ℕ) (old new : List Event) : Type 0 where
  pub begins : IsPrefix old new
  pub unsent : own s new ≡ own s old
  pub unchained : count_by is_chain new ≡ count_by is_chain old
  pub unasked : count_by is_chain_busy new ≡ count_by is_chain_busy old

-- A worker whose work asks for nothing served: its sender made no event, its owner chained nothing and neither closed nor
-- drained the queue, the stop item ended last, and nothing runs.
pub record HasServed (old new : WorkerState RunCounter) : Type 0 where
  pub same : IsSameWorker old new
  pub quiet : QueuesNothing old.number old.seen new.seen
  pub closes_is : count_by is_close new.seen ≡ count_by is_close old.seen
  pub drains_is : count_by is_drain new.seen ≡ count_by is_drain old.seen
  pub stopped : EndsWithStop new.layout new.seen
  pub idle : ¬ IsRunning new.seen
  pub legal : IsLegal new.layout new.seen

-- each of these threads was given the sender at its place, and how many items are its own
abbrev pub AreThreads : ℕ → List Known → List (PromisedHandle Sender QueuesOwn) → Type 0
AreThreads own senders threads = (i : ℕ) (d : PromisedHandle Sender QueuesOwn) (e : Known) → i < length threads →
    ((slice_index_or threads i d).promise.sender.value ≡ slice_index_or senders i e) × ((slice_index_or threads i d).promise.own ≡ own)

-- each of these senders queued its own items
pub record AllQueued (own : ℕ) (olds news : List Known) : Type 0 where
  pub count : length news ≡ length olds
  pub each : (i : ℕ) (d : Known) → i < length olds → HasQueued (items_at (slice_index_or olds i d).number own) (slice_index_or olds i d)
      (slice_index_or news i d)

-- The seats of a team whose threads have ended, each of which went on from what it had seen: the worker served, each of the
-- plan's senders queued its own items, and the program's queued the stop item.
pub record HasRun (own_items : ℕ) (old new : Team) : Type 0 where
  pub worker : HasServed old.worker new.worker
  pub senders : AllQueued own_items old.senders.items new.senders.items
  pub program : HasQueuedStop old.program new.program

-- The sender of this number, of this queue of this size: its events are that it asked for each of its own items in order, once
-- each, and that each was pushed, found pending or refused.
pub record IsQueuer (own_items : ℕ) (queue : QueueId) (layout : Layout) (i : ℕ) (s : Known) : Type 0 where
  pub number_is : s.number ≡ i
  pub queue_is : s.queue ≡ queue
  pub layout_is : s.layout ≡ layout
  pub queued : SendsAll i (items_at i own_items) (own i s.seen)

-- A team whose threads have ended: each of the plan's senders queued its own items, the program's tried to queue the stop
-- item, and the worker served an open queue until the stop item had ended.
pub record HasRaced (plan : Plan) (team : Team) : Type 0 where
  pub layout : IsLayoutOf plan.senders plan.own team.worker.layout
  pub count : length team.senders.items ≡ plan.senders
  pub each : (i : ℕ) (d : Known) → i < plan.senders
      → IsQueuer plan.own team.worker.queue team.worker.layout i (slice_index_or team.senders.items i d)
  pub number_is : team.worker.number ≡ plan.senders
  pub unsent : own plan.senders team.worker.seen ≡ []
  pub unchained : count_by is_chain team.worker.seen ≡ 0
  pub unasked : count_by is_chain_busy team.worker.seen ≡ 0
  pub unclosed : count_by is_close team.worker.seen ≡ 0
  pub undrained : count_by is_drain team.worker.seen ≡ 0
  pub stopped : EndsWithStop team.worker.layout team.worker.seen
  pub idle : ¬ IsRunning team.worker.seen
  pub legal : IsLegal team.worker.layout team.worker.seen
  pub program_number : team.program.number ≡ plan.senders + 1
  pub program_queue : team.program.queue ≡ team.worker.queue
  pub stops : AllByRecursion (IsOfStop team.worker.layout) (own (plan.senders + 1) team.program.seen)
  pub few_stops : length (own (plan.senders + 1) team.program.seen) ≤ 2 * 2 ^ 32
