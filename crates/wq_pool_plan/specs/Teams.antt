-- The seats of a plan's queues.
use Rattle.std.specs.Prelude.{◌≡◌, ℕ, ◌+◌, ◌<◌, List, [], ◌∷◌, ◌++◌, length, slice_index_or}
use Rattle.wq_live.specs.Known.{Known, new_sender}
use Rattle.wq_worker.specs.State.{WorkerState}
use Rattle.wq_plan.specs.declared.plan.Plan.{Plan}
use Rattle.wq_plan.specs.Plan.{IsLayoutOf}
use Rattle.wq_race.specs.declared.run_counter.RunCounter.{RunCounter}
use Rattle.wq_pool_plan.specs.declared.teams.Group.{Group}
use Rattle.wq_pool_plan.specs.declared.teams.Teams.{Teams}

-- each group got one more sender, that of its place
pub record AreDealt (senders : List Known) (old new : List Group) : Type 0 where
  pub count : length new ≡ length old
  pub longer : (i : ℕ) (d e : Group) → i < length old → length (slice_index_or new i d).senders.items ≡ length (slice_index_or old i e).senders.items + 1
  pub each : (i : ℕ) (d e : Group) (x : Known) → i < length old
      → (slice_index_or new i d).senders.items ≡ (slice_index_or old i e).senders.items ++ slice_index_or senders i x ∷ []

-- so many groups, each of one sender of each group, by its place there
pub record AreTurned (count : ℕ) (groups turned : List Group) : Type 0 where
  pub count_is : length turned ≡ count
  pub lengths : (j : ℕ) (d : Group) → j < count → length (slice_index_or turned j d).senders.items ≡ length groups
  pub each : (i j : ℕ) (d e : Group) (x y : Known) → i < length groups → j < count
      → slice_index_or (slice_index_or turned j d).senders.items i x ≡ slice_index_or (slice_index_or groups i e).senders.items j y

-- The plan's senders in groups by number, and the program's, all of new queues of the plan's size, which are in the hands of
-- these workers, whose own senders have the number between theirs. They have seen nothing.
pub record AreTeams (plan : Plan) (teams : Teams) : Type 0 where
  pub programs_count : length teams.programs.items ≡ length teams.served.items
  pub groups_count : length teams.groups.items ≡ plan.senders
  pub lengths : (s : ℕ) (d : Group) → s < plan.senders → length (slice_index_or teams.groups.items s d).senders.items ≡ length teams.served.items
  pub sized : (q : ℕ) (w : WorkerState RunCounter) → q < length teams.served.items
      → IsLayoutOf plan.senders plan.own (slice_index_or teams.served.items q w).layout
  pub numbers : (q : ℕ) (w : WorkerState RunCounter) → q < length teams.served.items → (slice_index_or teams.served.items q w).number ≡ plan.senders
  pub programs : (q : ℕ) (w : WorkerState RunCounter) (x : Known) → q < length teams.served.items → slice_index_or teams.programs.items q x
      ≡ new_sender (slice_index_or teams.served.items q w).queue (slice_index_or teams.served.items q w).layout (plan.senders + 1)
  pub senders : (s q : ℕ) (w : WorkerState RunCounter) (d : Group) (x : Known) → s < plan.senders → q < length teams.served.items
      → slice_index_or (slice_index_or teams.groups.items s d).senders.items q x
      ≡ new_sender (slice_index_or teams.served.items q w).queue (slice_index_or teams.served.items q w).layout s
