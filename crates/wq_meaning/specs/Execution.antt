-- Executions, each taken whole: the history after it, from the history before it.
use Rattle.std.specs.Prelude.{ℕ, zero, suc, ◌-◌, Bool, false, not, ◌&&◌, ◌==◌, List, [], ◌∷◌, ◌++◌, length, drop, fold, Option, Some, None, slice_index_or, nat_le}
use Rattle.std.specs.Prelude.{if◌then◌else◌}
use Rattle.arrayvec.specs.ArrayVec.{ArrayVec}
use Rattle.wq_words.specs.declared.event.Event.{Event}
use Rattle.wq_words.specs.declared.event.Event.TheVariants.{Take, Drain, Resume, Begin, End}
use Rattle.wq_words.specs.History.{accepted, begun, ended, next, shut, draining, taken}
use Rattle.wq_meaning.specs.Queueing.{queue_events, chain_events}

-- what each item's function answers: the items to be queued next. No other number's function answers any
abbrev pub no_follow : ArrayVec ℕ
no_follow = record { items = [] }

abbrev pub follow_of : List (ArrayVec ℕ) → ℕ → List ℕ
follow_of follows k = (slice_index_or follows k no_follow).items

-- a Take, where nothing taken waits and the queue is open
abbrev pub take_events : List Event → List Event
take_events h = if nat_le (taken h) (length (begun h)) && not (shut h) then Take ∷ [] else []

-- a follow item is queued by the worker's sender while the queue is open, and chained while it is shut
abbrev pub follow_events : ℕ → ℕ → List Event → List Event
follow_events worker k h = if shut h then chain_events k h else queue_events worker k h

abbrev pub after_follow : ℕ → List Event → ℕ → List Event
after_follow worker h k = h ++ follow_events worker k h

-- the run of a number: its Begin, its follow items in order, its End
abbrev pub after_run : ℕ → List (ArrayVec ℕ) → List Event → Option ℕ → List Event
after_run worker follows h None = h
after_run worker follows h (Some k) = fold (after_follow worker) (h ++ Begin k ∷ []) (follow_of follows k) ++ End k ∷ []

-- one execution, of the oldest number that is accepted and not begun
abbrev pub after_execution : ℕ → List (ArrayVec ℕ) → List Event → List Event
after_execution worker follows h = after_run worker follows (h ++ take_events h) (next h)

-- at most so many executions, none after one of a number at which they end or where no number waited
abbrev pub go_on : (List Event → List Event) → (ℕ → Bool) → List Event → Option ℕ → List Event
go_on more ends h None = h
go_on more ends h (Some k) = if ends k then h else more h

abbrev pub after_executions : ℕ → List (ArrayVec ℕ) → (ℕ → Bool) → ℕ → List Event → List Event
after_executions worker follows ends zero h = h
after_executions worker follows ends (suc n) h = go_on (after_executions worker follows ends n) ends (after_execution worker follows h) (next h)

-- where executions end: at this number, or at none
abbrev pub ends_at : Option ℕ → ℕ → Bool
ends_at None k = false
ends_at (Some last) k = k == last

-- what is accepted and not ended
abbrev pub left_in : List Event → ℕ
left_in h = length (accepted h) - length (ended h)

-- a drain begins where the queue is open, and ends where the queue drains and nothing is left
abbrev pub begin_drain : List Event → List Event
begin_drain h = if shut h then h else h ++ Drain ∷ []

abbrev pub end_drain : List Event → List Event
end_drain h = if draining h && (left_in h == 0) then h ++ Resume ∷ [] else h

-- what has ended in g since h
abbrev pub ended_since : List Event → List Event → List ℕ
ended_since h g = drop (length (ended h)) (ended g)
