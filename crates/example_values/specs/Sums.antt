-- Sums of values.
use Rattle.std.specs.Prelude.{◌≡◌, ℕ, ◌≤◌, ◌^◌, List, sum, sum_by, Option, Some, None}
use Rattle.wq_words.specs.declared.event.Event.{Event}
use Rattle.wq_value_worker.specs.OwnBrought.{own_brought}
use Rattle.wq_value_worker.specs.Returned.{value_of_pair}
use Rattle.wq_value_worker.specs.Valued.{values_among}

-- the sum of the values that items were run with
abbrev pub sum_of : List (ℕ × ℕ) → ℕ
sum_of pairs = sum_by value_of_pair pairs

-- the items that were run, each with its value, and those that came back
pub record AdderState : Type 0 where
  pub ran : List (ℕ × ℕ)
  pub came_back : List (ℕ × ℕ)

-- this is the sum of what ran, or there is none, and that sum does not fit into 64 bits
abbrev pub IsSumOf : List (ℕ × ℕ) → Option ℕ → Type 0
IsSumOf ran (Some s) = s ≡ sum_of ran
IsSumOf ran None = 2 ^ 64 ≤ sum_of ran

-- the sum of the values that the queueings of the seat s brought
abbrev pub own_sum : ℕ → List Event → List (Option ℕ) → ℕ
own_sum s h values = sum (values_among (own_brought s h values))
