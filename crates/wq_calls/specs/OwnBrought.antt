-- What the queueings of one seat brought.
use Rattle.std.specs.Prelude.{ℕ, ◌==◌, if◌then◌else◌, List, [], ◌∷◌, filter_map, Option, Some, None}
use Rattle.wq_words.specs.declared.event.Event.{Event}
use Rattle.wq_words.specs.Seen.{seat_of}
use Rattle.wq_words.specs.Valued.{Valued, brought_by, with_values}
use Rattle.wq_words.specs.declared.answer.Answer.{Answer}
use Rattle.wq_words.specs.declared.answer.Answer.TheVariants as answer
use Rattle.wq_calls.specs.declared.value_answer.ValueAnswer.{ValueAnswer}
use Rattle.wq_calls.specs.declared.value_answer.ValueAnswer.TheVariants as value

abbrev pub own_brought_by : {V : Type 0} → ℕ → Valued V → Option (Option V)
own_brought_by s x = if seat_of x.event == s then brought_by x else None

-- what was brought by the events of the seat s, in order, in the history in which these values were brought
abbrev pub own_brought : {V : Type 0} → ℕ → List Event → List (Option V) → List (Option V)
own_brought s h values = filter_map (own_brought_by s) (with_values h values)

-- the value of a queueing, if it was queued
abbrev pub queued_value : {V : Type 0} → V → ValueAnswer V → List (Option V)
queued_value v (value.Queued is_first is_waking) = Some v ∷ []
queued_value v _ = []

-- what the queueing of a barrier or of the stop item brought, if it was queued: no value
abbrev pub queued_nothing : {V : Type 0} → Answer → List (Option V)
queued_nothing (answer.Queued is_first is_waking) = None ∷ []
queued_nothing _ = []
