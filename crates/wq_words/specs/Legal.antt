-- Which histories a queue can have.
use Rattle.std.specs.Prelude.{◌≡◌, ℕ, ◌<◌, List, length, take, Some, slice_get}
use Rattle.wq_words.specs.declared.layout.Layout.{Layout}
use Rattle.wq_words.specs.declared.history.HistoryFault.{HistoryFault}
use Rattle.wq_words.specs.declared.history.HistoryFault.TheVariants.{NoSeat, NoItem, NotAllowed}
use Rattle.wq_words.specs.declared.event.Why.TheVariants.{Closed, Draining}
use Rattle.wq_words.specs.declared.event.Why.{Why}
use Rattle.wq_words.specs.declared.event.Event.{Event}
use Rattle.wq_words.specs.declared.event.Event.TheVariants.{Hold, Busy, Push, Back, Take, Close, Drain, Resume, Begin, End, Chain, ChainBusy, Rest}
use Rattle.wq_words.specs.Numbers.{number_count}
use Rattle.wq_words.specs.History.{accepted, ended, IsRunning, running, next, IsPending, Holds, IsClosed, IsShut, IsDraining, HasDrained}

-- a number may be given back for this: the queue is closed, or some drain has begun, which may have ended since; any time for
-- the other causes
abbrev pub IsCause : List Event → Why → Type 0
IsCause h Closed = IsClosed h
IsCause h Draining = HasDrained h
IsCause h _ = Unit {0}

-- the event may come after the events h: one case an event
abbrev pub MayFollow : List Event → Event → Type 0
MayFollow h (Hold s k) = ¬ IsPending h k
MayFollow h (Busy s k) = IsPending h k
MayFollow h (Push s k) = Holds h s k × (¬ IsShut h)
MayFollow h (Back s k why) = Holds h s k × IsCause h why
MayFollow h Take = ¬ IsShut h
MayFollow h Drain = ¬ IsShut h
MayFollow h Resume = IsDraining h × (length (ended h) ≡ length (accepted h))
MayFollow h Close = ¬ IsClosed h
MayFollow h (Begin k) = (¬ IsRunning h) × (next h ≡ Some k)
MayFollow h (End k) = running h ≡ Some k
MayFollow h (Chain k) = IsShut h × IsRunning h × (¬ IsPending h k)
MayFollow h (ChainBusy k) = IsShut h × IsRunning h × IsPending h k
MayFollow h Rest = (¬ IsShut h) × (length (ended h) ≡ length (accepted h))

-- the event's seat is one of the queue's
abbrev pub HasSeat : Layout → Event → Type 0
HasSeat layout (Hold s k) = s < layout.senders
HasSeat layout (Busy s k) = s < layout.senders
HasSeat layout (Push s k) = s < layout.senders
HasSeat layout (Back s k why) = s < layout.senders
HasSeat layout _ = Unit {0}

-- the event's number is one of the queue's, and one of its items where it is chained
abbrev pub HasNumber : Layout → Event → Type 0
HasNumber layout (Hold s k) = k < number_count layout
HasNumber layout (Busy s k) = k < number_count layout
HasNumber layout (Push s k) = k < number_count layout
HasNumber layout (Back s k why) = k < number_count layout
HasNumber layout Take = Unit {0}
HasNumber layout Close = Unit {0}
HasNumber layout Drain = Unit {0}
HasNumber layout Resume = Unit {0}
HasNumber layout (Begin k) = k < number_count layout
HasNumber layout (End k) = k < number_count layout
HasNumber layout (Chain k) = k < layout.items
HasNumber layout (ChainBusy k) = k < layout.items
HasNumber layout Rest = Unit {0}

abbrev pub IsAllowed : Layout → List Event → Event → Type 0
IsAllowed layout h e = HasSeat layout e × HasNumber layout e × MayFollow h e

-- each event is allowed by the events before it
abbrev pub IsLegal : Layout → List Event → Type 0
IsLegal layout h = (place : ℕ) (e : Event) → slice_get h place ≡ Some e → IsAllowed layout (take place h) e

-- why the event may not come after the events h, the first of these that fits
abbrev pub HasFault : Layout → List Event → Event → HistoryFault → Type 0
HasFault layout h e NoSeat = ¬ HasSeat layout e
HasFault layout h e NoItem = HasSeat layout e × (¬ HasNumber layout e)
HasFault layout h e NotAllowed = HasSeat layout e × HasNumber layout e × (¬ MayFollow h e)

-- all before the place is legal, and the event there has this fault
abbrev pub IsFirstFault : Layout → List Event → ℕ → HistoryFault → Type 0
IsFirstFault layout h place fault =
    IsLegal layout (take place h) × ((e : Event) × (slice_get h place ≡ Some e) × HasFault layout (take place h) e fault)

-- the queue takes no push, and as many ended as accepted: a close or a drain has ended
abbrev pub HasRunOut : List Event → Type 0
HasRunOut h = IsShut h × (length (ended h) ≡ length (accepted h))

-- closed, and as many ended as accepted
abbrev pub IsComplete : List Event → Type 0
IsComplete h = IsClosed h × (length (ended h) ≡ length (accepted h))
