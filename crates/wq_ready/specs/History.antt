-- What a history of ready events says, oldest event first: lists and counts of its events.
use Rattle.std.specs.Prelude.{◌≡◌, ℕ, ◌+◌, List, length, Option, Some, None, slice_get, filter_map}
use Rattle.wq_ready.specs.declared.event.ReadyEvent.{ReadyEvent}
use Rattle.wq_ready.specs.declared.event.ReadyEvent.TheVariants.{Announce, Pick}

abbrev pub caller_of : ReadyEvent → ℕ
caller_of (Announce c q) = c
caller_of (Pick c q) = c

abbrev pub queue_of : ReadyEvent → ℕ
queue_of (Announce c q) = q
queue_of (Pick c q) = q

abbrev pub announced_by : ReadyEvent → Option ℕ
announced_by (Announce c q) = Some q
announced_by (Pick c q) = None

abbrev pub picked_by : ReadyEvent → Option ℕ
picked_by (Announce c q) = None
picked_by (Pick c q) = Some q

-- the queues of the Announce events, and those of the Pick events, in order
abbrev pub announced : List ReadyEvent → List ℕ
announced h = filter_map announced_by h

abbrev pub picked : List ReadyEvent → List ℕ
picked h = filter_map picked_by h

-- the queue to pick next: of the Announce events, counted from 0, that at the place `number of Pick events` has it
abbrev pub next_queue : List ReadyEvent → Option ℕ
next_queue h = slice_get (announced h) (length (picked h))

-- the Announce events are the Pick events plus the number of queues
abbrev pub IsFull : ℕ → List ReadyEvent → Type 0
IsFull queues h = length (announced h) ≡ length (picked h) + queues

-- the Announce events are as many as the Pick events
abbrev pub IsEmpty : List ReadyEvent → Type 0
IsEmpty h = length (announced h) ≡ length (picked h)
