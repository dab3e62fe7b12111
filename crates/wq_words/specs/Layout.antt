-- A layout of given numbers.
use Rattle.std.specs.Prelude.{ℕ}
use Rattle.wq_words.specs.Limits.{AreInLimits}
use Rattle.wq_words.specs.declared.layout.Layout.{Layout}

-- the layout of these numbers, which are in the limits
abbrev pub layout_of_numbers : (items barriers senders : ℕ) → AreInLimits items barriers senders → Layout
layout_of_numbers items barriers senders limits = record { items = items; barriers = barriers; senders = senders; in_limits = limits }
