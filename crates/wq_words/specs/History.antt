-- What a history of events says, oldest event first: lists and counts of its events.
use Rattle.std.specs.Prelude.{ℕ, ◌<◌, ◌+◌, ◌==◌, Bool, true, false, not, ◌&&◌, List, length, drop, Option, Some, None, slice_get, count_by, filter_map, nat_lt}
use Rattle.std.specs.Prelude.{if◌then◌else◌}
use Rattle.std.specs.List.{after_last, before_last}
use Rattle.wq_words.specs.declared.event.Event.{Event}
use Rattle.wq_words.specs.declared.event.Event.TheVariants.{Hold, Push, Back, Take, Close, Drain, Resume, Begin, End, Chain}

-- the number that the event accepts: a queueing was answered true, or chained (`queue_work` answers true)
abbrev pub accepted_by : Event → Option ℕ
accepted_by (Push s k) = Some k
accepted_by (Chain k) = Some k
accepted_by _ = None

abbrev pub begun_by : Event → Option ℕ
begun_by (Begin k) = Some k
begun_by _ = None

abbrev pub ended_by : Event → Option ℕ
ended_by (End k) = Some k
ended_by _ = None

-- the numbers accepted, begun and ended, in order
abbrev pub accepted : List Event → List ℕ
accepted h = filter_map accepted_by h

abbrev pub begun : List Event → List ℕ
begun h = filter_map begun_by h

abbrev pub ended : List Event → List ℕ
ended h = filter_map ended_by h

-- a number runs: more have begun than ended
abbrev pub IsRunning : List Event → Type 0
IsRunning h = length (ended h) < length (begun h)

-- the number that runs, and the number to begin next
abbrev pub running : List Event → Option ℕ
running h = slice_get (begun h) (length (ended h))

abbrev pub next : List Event → Option ℕ
next h = slice_get (accepted h) (length (begun h))

-- what was accepted and has not begun, in order
abbrev pub unbegun : List Event → List ℕ
unbegun h = drop (length (begun h)) (accepted h)

-- the PENDING bit of k: its Hold and Chain events are more than its Back and Begin events (`work_pending`; the bit is
-- set by test-and-set as an item is queued, and cleared before its function is called)
abbrev pub sets_pending : ℕ → Event → Bool
sets_pending k (Hold s j) = j == k
sets_pending k (Chain j) = j == k
sets_pending k _ = false

abbrev pub clears_pending : ℕ → Event → Bool
clears_pending k (Back s j why) = j == k
clears_pending k (Begin j) = j == k
clears_pending k _ = false

abbrev pub IsPending : List Event → ℕ → Type 0
IsPending h k = count_by (clears_pending k) h < count_by (sets_pending k) h

abbrev pub pending : List Event → ℕ → Bool
pending h k = nat_lt (count_by (clears_pending k) h) (count_by (sets_pending k) h)

-- sender s holds k: the Hold events of both are more than their Push and Back events
abbrev pub starts_hold : ℕ → ℕ → Event → Bool
starts_hold s k (Hold t j) = (j == k) && (t == s)
starts_hold s k _ = false

abbrev pub stops_hold : ℕ → ℕ → Event → Bool
stops_hold s k (Push t j) = (j == k) && (t == s)
stops_hold s k (Back t j why) = (j == k) && (t == s)
stops_hold s k _ = false

abbrev pub Holds : List Event → ℕ → ℕ → Type 0
Holds h s k = count_by (stops_hold s k) h < count_by (starts_hold s k) h

-- the queue is closed, and takes no push any more: there is a Close
abbrev pub is_close : Event → Bool
is_close Close = true
is_close _ = false

abbrev pub IsClosed : List Event → Type 0
IsClosed h = 0 < count_by is_close h

abbrev pub closed : List Event → Bool
closed h = nat_lt 0 (count_by is_close h)

abbrev pub is_drain : Event → Bool
is_drain Drain = true
is_drain _ = false

abbrev pub is_resume : Event → Bool
is_resume Resume = true
is_resume _ = false

-- how many events shut the queue: each Close, and each Drain after the last Resume, or at all where there is none
abbrev pub shuts : List Event → ℕ
shuts h = count_by is_close h + count_by is_drain (after_last is_resume h)

-- the queue takes no push now: it is closed, or it drains
abbrev pub IsShut : List Event → Type 0
IsShut h = 0 < shuts h

abbrev pub shut : List Event → Bool
shut h = nat_lt 0 (shuts h)

-- the queue drains: it takes no push now, and is not closed
abbrev pub IsDraining : List Event → Type 0
IsDraining h = IsShut h × (¬ IsClosed h)

abbrev pub draining : List Event → Bool
draining h = shut h && not (closed h)

-- some drain has begun, ended or not: there is a Drain
abbrev pub HasDrained : List Event → Type 0
HasDrained h = 0 < count_by is_drain h

abbrev pub is_push : Event → Bool
is_push (Push s k) = true
is_push _ = false

-- the owner takes what stands on the list and leaves the queue open or draining, or opens it again
abbrev pub is_cut : Event → Bool
is_cut Take = true
is_cut Drain = true
is_cut Resume = true
is_cut _ = false

-- how many were pushed since the last Take, Drain or Resume, or at all where there is none
abbrev pub fresh : List Event → ℕ
fresh h = count_by is_push (after_last is_cut h)

-- a push now would be the first: there is no Push after the last Take, Drain or Resume (`llist_add` answers true where the
-- list was empty)
abbrev pub first : List Event → Bool
first h = fresh h == 0

-- how many of the accepted numbers were taken: all of them while the queue takes no push, else those that were accepted before
-- the last Take, Drain or Resume
abbrev pub taken : List Event → ℕ
taken h = length (accepted (if shut h then h else before_last is_cut h))
