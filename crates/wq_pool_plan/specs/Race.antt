-- What the seats of a race over a pool have done.
use Rattle.std.specs.Prelude.{◌≡◌, ℕ, ◌+◌, ◌*◌, ◌^◌, ◌<◌, ◌≤◌, List, length, All, slice_index_or}
use Rattle.std.specs.List.{AllByRecursion}
use Rattle.std.specs.declared.thread.PromisedHandle.{PromisedHandle}
use Rattle.wq_words.specs.Seen.{own}
use Rattle.wq_live.specs.Known.{Known, new_sender}
use Rattle.wq_plan.specs.declared.plan.Plan.{Plan}
use Rattle.wq_plan.specs.Plan.{most_plan_queues, IsLayoutOf}
use Rattle.wq_race.specs.Race.{HasQueuedStop, AllQueued, IsOfStop, IsQueuer}
use Rattle.wq_ready.specs.Known.{Identity, IsCallerOf}
use Rattle.wq_turn.specs.declared.worker_id.WorkerId.{WorkerId}
use Rattle.wq_pool.specs.Known.{PoolState}
use Rattle.wq_pool_plan.specs.declared.teams.Group.{Group}
use Rattle.wq_pool_plan.specs.declared.race.Callers.{Callers}
use Rattle.wq_pool_plan.specs.declared.race.QueuesGroup.{QueuesGroup}
use Rattle.wq_pool_plan.specs.declared.race.Raced.{Raced}

-- the plan has one queue, and that one worker
abbrev pub IsLone : Plan → Type 0
IsLone plan = (plan.queues ≡ 1) × (plan.workers ≡ 1)

-- each of these is a caller of this ready queue, and so many are the senders'
pub record AreCallersOf (ready : Identity) (senders : ℕ) (callers : Callers) : Type 0 where
  pub of_workers : All (IsCallerOf ready) callers.workers.items
  pub of_senders : All (IsCallerOf ready) callers.senders.items
  pub of_program : IsCallerOf ready callers.program
  pub count : length callers.senders.items ≡ senders

-- a group with a sender for some of the pool's queues, each with room for its own items
pub record IsGroupFor {K : Type 0} (own_items : ℕ) (pool : PoolState K) (group : Group) : Type 0 where
  pub places : length group.senders.items ≤ length pool.workers
  pub few : length group.senders.items ≤ most_plan_queues
  pub rooms : All (λ s. s.number * own_items + own_items ≤ s.layout.items) group.senders.items

-- groups and the program's senders, with the callers that their threads take
pub record MayRun {K : Type 0} (own_items : ℕ) (pool : PoolState K) (callers : Callers) (groups : List Group) (programs : List Known) : Type 0 where
  pub called : AreCallersOf pool.ready (length groups) callers
  pub ready : All (IsGroupFor own_items pool) groups
  pub places : length programs ≤ length pool.workers
  pub few : length programs ≤ most_plan_queues

-- each of these threads was given the group at its place, and how many items are its senders' own
abbrev pub AreGroupThreads : ℕ → List Group → List (PromisedHandle Group QueuesGroup) → Type 0
AreGroupThreads own_items groups threads = (i : ℕ) (d : PromisedHandle Group QueuesGroup) (e : Group) → i < length threads →
    ((slice_index_or threads i d).promise.group.value ≡ slice_index_or groups i e) × ((slice_index_or threads i d).promise.own ≡ own_items)

-- each sender of each of these groups queued its own items
pub record AllGroupsQueued (own_items : ℕ) (olds news : List Group) : Type 0 where
  pub count : length news ≡ length olds
  pub each : (i : ℕ) (d e : Group) → i < length olds → AllQueued own_items (slice_index_or olds i d).senders.items (slice_index_or news i e).senders.items

-- each of these senders queued the stop item of its queue
pub record AllStopped (olds news : List Known) : Type 0 where
  pub count : length news ≡ length olds
  pub each : (i : ℕ) (d e : Known) → i < length olds → HasQueuedStop (slice_index_or olds i d) (slice_index_or news i e)

-- The senders of this queue after their threads have ended: each of the plan's has queued its own items, and the program's, which
-- had done nothing, the stop item, with too few tries to saturate a count. The worker's own sender has the number between theirs.
pub record IsSent (plan : Plan) (id : WorkerId) (senders : List Known) (program : Known) : Type 0 where
  pub sized : IsLayoutOf plan.senders plan.own id.layout
  pub number_is : id.number ≡ plan.senders
  pub count : length senders ≡ plan.senders
  pub each : (s : ℕ) (x : Known) → s < plan.senders → IsQueuer plan.own id.queue id.layout s (slice_index_or senders s x)
  pub program_number : program.number ≡ plan.senders + 1
  pub program_queue : program.queue ≡ id.queue
  pub stopped : HasQueuedStop (new_sender id.queue id.layout (plan.senders + 1)) program
  pub stops : AllByRecursion (IsOfStop id.layout) (own (plan.senders + 1) program.seen)
  pub few_stops : length (own (plan.senders + 1) program.seen) ≤ 2 * 2 ^ 32

-- the same of each of these queues
pub record AllSent (plan : Plan) (ids : List WorkerId) (by_queue : List Group) (programs : List Known) : Type 0 where
  pub groups_count : length by_queue ≡ length ids
  pub programs_count : length programs ≡ length ids
  pub each : (q : ℕ) (i : WorkerId) (d : Group) (x : Known) → q < length ids
      → IsSent plan (slice_index_or ids q i) (slice_index_or by_queue q d).senders.items (slice_index_or programs q x)

-- a pool of the plan's queues, and the senders of each after all threads have ended
pub record HaveRun (plan : Plan) (raced : Raced) : Type 0 where
  pub count : length raced.pool.workers ≡ plan.queues
  pub sent : AllSent plan raced.pool.workers raced.by_queue.items raced.programs.items
