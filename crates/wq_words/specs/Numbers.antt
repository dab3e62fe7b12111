-- The numbers of a queue.
use Rattle.std.specs.Prelude.{ℕ, ◌+◌}
use Rattle.wq_words.specs.declared.layout.Layout.{Layout}

-- items come first, barriers follow, and the stop item is the last number
abbrev pub barrier_number : Layout → ℕ → ℕ
barrier_number layout b = layout.items + b

abbrev pub stop_number : Layout → ℕ
stop_number layout = layout.items + layout.barriers

-- items, barriers and the stop item are the numbers below this one
abbrev pub number_count : Layout → ℕ
number_count layout = layout.items + layout.barriers + 1
