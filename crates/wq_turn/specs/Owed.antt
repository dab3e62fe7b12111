-- Whether a worker owes an execution.
use Rattle.std.specs.Prelude.{Bool, true, false, List}
use Rattle.wq_words.specs.declared.event.Event.{Event}
use Rattle.wq_words.specs.History.{IsRunning}

-- true just where a number runs
abbrev pub IsOwed : Bool → List Event → Type 0
IsOwed true h = IsRunning h
IsOwed false h = ¬ IsRunning h
