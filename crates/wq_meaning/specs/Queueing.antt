-- A queueing, a chaining and a close: the events that each adds to a history, and what it answers by the events before it.
use Rattle.std.specs.Prelude.{ℕ, List, [], ◌∷◌, Option, Some, None, if◌then◌else◌}
use Rattle.wq_words.specs.declared.event.Event.{Event}
use Rattle.wq_words.specs.declared.event.Event.TheVariants.{Hold, Busy, Push, Back, Close, Chain, ChainBusy}
use Rattle.wq_words.specs.declared.event.Why.TheVariants as why
use Rattle.wq_words.specs.History.{pending, closed, draining, fresh, first}
use Rattle.wq_words.specs.Rest.{wakes}
use Rattle.wq_words.specs.declared.answer.Answer.{Answer}
use Rattle.wq_words.specs.declared.answer.Answer.TheVariants as answer

-- a queueing of number k by sender s
abbrev pub queue_events : ℕ → ℕ → List Event → List Event
queue_events s k h =
    if pending h k then Busy s k ∷ []
    else if closed h then Hold s k ∷ Back s k why.Closed ∷ []
    else if draining h then Hold s k ∷ Back s k why.Draining ∷ []
    else Hold s k ∷ Push s k ∷ []

abbrev pub queue_answer : ℕ → List Event → Answer
queue_answer k h =
    if pending h k then answer.Pending
    else if closed h then answer.Closed
    else if draining h then answer.Draining
    else answer.Queued (first h) (wakes h)

-- a queueing of number k by the execution that runs while the queue is shut
abbrev pub chain_events : ℕ → List Event → List Event
chain_events k h = if pending h k then ChainBusy k ∷ [] else Chain k ∷ []

-- a close: nothing where the queue was closed before, else how many it took
abbrev pub close_events : List Event → List Event
close_events h = if closed h then [] else Close ∷ []

abbrev pub close_answer : List Event → Option ℕ
close_answer h = if closed h then None else Some (fresh h)
