-- The numbers of messages.
use Rattle.std.specs.Prelude.{ℕ, List, [], ◌∷◌, filter_map, Option, Some, None, Box, box_value}
use Rattle.std.specs.declared.alloc.Global.{Global}
use Rattle.wq_values.specs.ValueAnswer.{ValueAnswer}
use Rattle.wq_values.specs.ValueAnswer.TheVariants as answer

abbrev pub BoxedNumber : Type 0
BoxedNumber = Box ℕ Global

abbrev pub number_in : Option BoxedNumber → Option ℕ
number_in None = None
number_in (Some message) = Some (box_value message)

-- the numbers of the messages that were brought, without the nothing that the stop item brings
abbrev pub numbers_of : List (Option BoxedNumber) → List ℕ
numbers_of brought = filter_map number_in brought

-- the number of a message, if it was queued
abbrev pub told_of : ℕ → ValueAnswer BoxedNumber → List ℕ
told_of number (answer.Queued is_first is_waking) = number ∷ []
told_of number _ = []
