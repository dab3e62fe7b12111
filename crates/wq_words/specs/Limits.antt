-- The limits of a queue.
use Rattle.std.specs.Prelude.{ℕ, ◌≤◌}
use Rattle.wq_words.specs.declared.layout.LayoutError.{LayoutError}
use Rattle.wq_words.specs.declared.layout.LayoutError.TheVariants.{Items, Barriers, Senders}

-- the most items that a queue can have
abbrev pub most_items : ℕ
most_items = 65536

-- the most barriers and the most senders of a queue
abbrev pub most_barriers : ℕ
most_barriers = 16

abbrev pub most_senders : ℕ
most_senders = 64

-- the most items of a queue in a script or a schedule of version 1, and in a plan
abbrev pub most_text_items : ℕ
most_text_items = 4096

abbrev pub IsBetween : ℕ → ℕ → ℕ → Type 0
IsBetween low n high = (low ≤ n) × (n ≤ high)

abbrev pub AreInLimits : ℕ → ℕ → ℕ → Type 0
AreInLimits items barriers senders = IsBetween 1 items most_items × IsBetween 1 barriers most_barriers × IsBetween 1 senders most_senders

-- of items, barriers and senders, in this order, this is the first that is out of its limits
abbrev pub IsFirstOutOfLimits : ℕ → ℕ → ℕ → LayoutError → Type 0
IsFirstOutOfLimits items barriers senders Items = ¬ IsBetween 1 items most_items
IsFirstOutOfLimits items barriers senders Barriers = IsBetween 1 items most_items × (¬ IsBetween 1 barriers most_barriers)
IsFirstOutOfLimits items barriers senders Senders =
    IsBetween 1 items most_items × IsBetween 1 barriers most_barriers × (¬ IsBetween 1 senders most_senders)
