-- What a checker keeps of the history that it was told.
use Rattle.std.specs.Prelude.{◌≡◌, ◌↔◌, ℕ, ◌<◌, Bool, IsTrue, List, length, get_or, Option, MatchOption}
use Rattle.wq_words.specs.declared.layout.Layout.{Layout}
use Rattle.wq_words.specs.declared.event.Event.{Event}
use Rattle.wq_words.specs.Numbers.{number_count}
use Rattle.wq_words.specs.History.{running, unbegun, closed, shut, HasDrained}
use Rattle.wq_words.specs.Legal.{MayFollow, IsLegal}
use Rattle.wq_words.specs.Keeper.{Keeper, Home, Sender, Listed, Owner, keeper}
use Rattle.wq_check.specs.declared.cause.Cause.{Cause}
use Rattle.wq_check.specs.declared.counts.Counts.{Counts}
use Rattle.wq_check.specs.declared.queue.Place.{Place}
use Rattle.wq_check.specs.declared.queue.Place.TheVariants.{Idle, Held, Waiting}
use Rattle.wq_check.specs.Causes.{HasCause}
use Rattle.wq_check.specs.Report.{event_counts}

-- where each number stands, which wait, oldest first, which runs, whether the queue is closed, whether it takes no push now, and
-- whether some drain has begun
pub record QueueState : Type 0 where
  pub layout : Layout
  pub places : List Place
  pub waiting : List ℕ
  pub running : Option ℕ
  pub closed : Bool
  pub shut : Bool
  pub has_drained : Bool

abbrev pub queue_state : Layout → List Place → List ℕ → Option ℕ → (closed shut has_drained : Bool) → QueueState
queue_state layout places waiting running closed shut has_drained = record {
  layout = layout;
  places = places;
  waiting = waiting;
  running = running;
  closed = closed;
  shut = shut;
  has_drained = has_drained;
}

-- where a number stands by its keeper
abbrev pub place_by_keeper : Keeper → Place
place_by_keeper Home = Idle
place_by_keeper (Sender s) = Held s
place_by_keeper Listed = Waiting
place_by_keeper Owner = Waiting

-- the queue stands so after the legal history h
pub record StandsAfter (q : QueueState) (h : List Event) : Type 0 where
  pub legal : IsLegal q.layout h
  pub has_places : length q.places ≡ number_count q.layout
  pub places_are : (k : ℕ) → k < number_count q.layout → get_or q.places k Idle ≡ place_by_keeper (keeper h k)
  pub waiting_is : q.waiting ≡ unbegun h
  pub running_is : q.running ≡ running h
  pub closed_is : q.closed ≡ closed h
  pub shut_is : q.shut ≡ shut h
  pub has_drained_is : IsTrue q.has_drained ↔ HasDrained h

-- the answer says whether the event may come after each history after which the queue stands so, and else the cause
abbrev pub Judges : QueueState → Event → Option Cause → Type 0
Judges q e answer = (h : List Event) → StandsAfter q h → MatchOption answer (MayFollow h e) (HasCause h e)

-- what a clause sees of a checker: how the queue stands, and what was counted
pub record CheckerState : Type 0 where
  pub queue : QueueState
  pub counts : Counts

abbrev pub checker_state : QueueState → Counts → CheckerState
checker_state queue counts = record { queue = queue; counts = counts }

-- it was told the legal history h
pub record IsAfter (c : CheckerState) (h : List Event) : Type 0 where
  pub stands : StandsAfter c.queue h
  pub counted : c.counts ≡ event_counts h
