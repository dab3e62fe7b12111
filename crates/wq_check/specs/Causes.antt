-- What the events before say against an event.
use Rattle.std.specs.Prelude.{◌≡◌, ◌≢◌, List, length, Some, Contains}
use Rattle.wq_words.specs.declared.layout.Layout.{Layout}
use Rattle.wq_words.specs.declared.history.HistoryFault.TheVariants as fault
use Rattle.wq_words.specs.declared.event.Why.TheVariants as reason
use Rattle.wq_words.specs.declared.event.Event.{Event}
use Rattle.wq_words.specs.declared.event.Event.TheVariants.{Hold, Busy, Push, Back, Take, Close, Drain, Resume, Begin, End, Chain, ChainBusy, Rest}
use Rattle.wq_words.specs.History.{accepted, ended, running, next, unbegun, IsRunning, IsPending, Holds, IsClosed, IsShut, IsDraining, HasDrained}
use Rattle.wq_words.specs.Legal.{HasFault}
use Rattle.wq_check.specs.declared.cause.Cause.{Cause}
use Rattle.wq_check.specs.declared.cause.Cause.TheVariants.{Pending, Idle, NotHeld, Closed, Draining, NotDraining, NeverDrained, Open, Runs, NothingRuns}
use Rattle.wq_check.specs.declared.cause.Cause.TheVariants.{NotWaiting, Next, NotEnded}
use Rattle.wq_check.specs.declared.cause.EventError.{EventError}
use Rattle.wq_check.specs.declared.cause.EventError.TheVariants.{NoSeat, NoItem, NotAllowed}

-- the first part of the event's line in `MayFollow` that fails after the events h
abbrev pub HasCause : List Event → Event → Cause → Type 0
HasCause h (Hold s k) Pending = IsPending h k
HasCause h (Busy s k) Idle = ¬ IsPending h k
HasCause h (Push s k) NotHeld = ¬ Holds h s k
HasCause h (Push s k) Closed = Holds h s k × IsClosed h
HasCause h (Push s k) Draining = Holds h s k × IsDraining h
HasCause h (Back s k why) NotHeld = ¬ Holds h s k
HasCause h (Back s k why) Open = Holds h s k × (why ≡ reason.Closed) × (¬ IsClosed h)
HasCause h (Back s k why) NeverDrained = Holds h s k × (why ≡ reason.Draining) × (¬ HasDrained h)
HasCause h Take Closed = IsClosed h
HasCause h Take Draining = IsDraining h
HasCause h Close Closed = IsClosed h
HasCause h Drain Closed = IsClosed h
HasCause h Drain Draining = IsDraining h
HasCause h Resume NotDraining = ¬ IsDraining h
HasCause h Resume NotEnded = IsDraining h × (length (ended h) ≢ length (accepted h))
HasCause h (Begin k) (Runs j) = running h ≡ Some j
HasCause h (Begin k) NotWaiting = (¬ IsRunning h) × (¬ Contains (unbegun h) k)
HasCause h (Begin k) (Next j) = (¬ IsRunning h) × Contains (unbegun h) k × (next h ≡ Some j) × (j ≢ k)
HasCause h (End k) NothingRuns = ¬ IsRunning h
HasCause h (End k) (Runs j) = (running h ≡ Some j) × (j ≢ k)
HasCause h (Chain k) Open = ¬ IsShut h
HasCause h (Chain k) NothingRuns = IsShut h × (¬ IsRunning h)
HasCause h (Chain k) Pending = IsShut h × IsRunning h × IsPending h k
HasCause h (ChainBusy k) Open = ¬ IsShut h
HasCause h (ChainBusy k) NothingRuns = IsShut h × (¬ IsRunning h)
HasCause h (ChainBusy k) Idle = IsShut h × IsRunning h × (¬ IsPending h k)
HasCause h Rest Closed = IsClosed h
HasCause h Rest Draining = IsDraining h
HasCause h Rest NotEnded = (¬ IsShut h) × (length (ended h) ≢ length (accepted h))
HasCause h _ _ = ⊥

-- why the event may not come after the events h: its fault, and the cause of the last one
abbrev pub HasEventError : Layout → List Event → Event → EventError → Type 0
HasEventError layout h e NoSeat = HasFault layout h e fault.NoSeat
HasEventError layout h e NoItem = HasFault layout h e fault.NoItem
HasEventError layout h e (NotAllowed cause) = HasFault layout h e fault.NotAllowed × HasCause h e cause
