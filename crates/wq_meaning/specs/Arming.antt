-- The calls of the delay table: the events that each adds to a history, the table after it, and what it answers.
use Rattle.std.specs.Prelude.{ℕ, Bool, ◌==◌, ◌||◌, List, [], ◌∷◌, map, if◌then◌else◌}
use Rattle.wq_words.specs.declared.event.Event.{Event}
use Rattle.wq_words.specs.declared.event.Event.TheVariants.{Hold, Push, Back}
use Rattle.wq_words.specs.declared.event.Why.TheVariants as why
use Rattle.wq_words.specs.History.{pending, closed, draining}
use Rattle.wq_words.specs.declared.answer.Armed.{Armed}
use Rattle.wq_words.specs.declared.answer.Armed.TheVariants as armed
use Rattle.wq_words.specs.declared.answer.Modified.{Modified}
use Rattle.wq_words.specs.declared.answer.Modified.TheVariants as modified
use Rattle.wq_words.specs.Armed.{armed_of, modified_of}
use Rattle.wq_words.specs.DelayTable.{DelayTable, on_table, due_part, items, is_too_far, table_with, table_without, table_at}
use Rattle.wq_meaning.specs.Queueing.{queue_events, queue_answer}

-- an item that is held and posted goes on the list, or back where the queue is closed
abbrev pub post_event : ℕ → List Event → ℕ → Event
post_event s h k = if closed h then Back s k why.Closed else Push s k

-- while the queue drains a post changes nothing: the item stays held, and on the table
abbrev pub post_events : ℕ → ℕ → List Event → List Event
post_events s k h = if draining h then [] else post_event s h k ∷ []

abbrev pub post_table : ℕ → List Event → DelayTable → DelayTable
post_table k h t = if draining h then t else table_without k t

abbrev pub post_answer : List Event → Modified
post_answer h =
    if closed h then modified.Closed
    else if draining h then modified.Draining
    else modified.Moved

-- with no delay, and of a pending item, an arming is a queueing
abbrev pub queues_now : ℕ → ℕ → List Event → Bool
queues_now k delay h = (delay == 0) || pending h k

-- an arming that is no queueing holds the item and puts it on the table
abbrev pub arm_events : ℕ → ℕ → ℕ → List Event → DelayTable → List Event
arm_events s k delay h t =
    if is_too_far delay t then []
    else if queues_now k delay h then queue_events s k h
    else Hold s k ∷ []

abbrev pub arm_table : ℕ → ℕ → List Event → DelayTable → DelayTable
arm_table k delay h t =
    if is_too_far delay t then t
    else if queues_now k delay h then t
    else table_with k delay t

abbrev pub arm_answer : ℕ → ℕ → List Event → DelayTable → Armed
arm_answer k delay h t =
    if is_too_far delay t then armed.TooFar
    else if queues_now k delay h then armed_of (queue_answer k h)
    else armed.OnTable

-- a cancelling: what is on the table goes back
abbrev pub cancel_events : ℕ → ℕ → DelayTable → List Event
cancel_events s k t = if on_table k t.entries then Back s k why.Cancelled ∷ [] else []

-- a modification: what is on the table is armed again, or posted where there is no delay; what is not is armed
abbrev pub modify_events : ℕ → ℕ → ℕ → List Event → DelayTable → List Event
modify_events s k delay h t =
    if is_too_far delay t then []
    else if on_table k t.entries then (if delay == 0 then post_events s k h else [])
    else arm_events s k delay h t

abbrev pub modify_table : ℕ → ℕ → List Event → DelayTable → DelayTable
modify_table k delay h t =
    if is_too_far delay t then t
    else if on_table k t.entries then (if delay == 0 then post_table k h t else table_with k delay (table_without k t))
    else arm_table k delay h t

abbrev pub modify_answer : ℕ → ℕ → List Event → DelayTable → Modified
modify_answer k delay h t =
    if is_too_far delay t then modified.TooFar
    else if on_table k t.entries then (if delay == 0 then post_answer h else modified.Moved)
    else modified_of (arm_answer k delay h t)

-- an advance posts the items that are due at a tick, in order. While the queue drains it posts none, and they stay on the table
abbrev pub posted_items : ℕ → List Event → DelayTable → List ℕ
posted_items tick h t = if draining h then [] else items (due_part tick t.entries)

abbrev pub advance_events : ℕ → ℕ → List Event → DelayTable → List Event
advance_events s tick h t = map (post_event s h) (posted_items tick h t)

abbrev pub advance_table : ℕ → List Event → DelayTable → DelayTable
advance_table tick h t = table_at tick (if draining h then due_part tick t.entries else []) t
