-- The chairs that seats are made on, and those that have met.
use Rattle.std.specs.Prelude.{ℕ, []}
use Rattle.atomic_table.specs.Seated.{TableId}
use Rattle.wq_words.specs.declared.layout.Layout.{Layout}
use Rattle.wq_core.specs.Machine.{Machine}
use Rattle.wq_table.specs.Chair.{Standing}
use Rattle.wq_table.specs.Law.{sender_part, owner_part}
use Rattle.wq_table.specs.Plays.{see, all_see}

-- a chair that has seen all that has happened, and keeps what it kept
abbrev pub seeing : Machine → Standing → Standing
seeing m it = record { queue = it.queue; part = see m.history it.part; others = all_see m.history it.others }

-- the chair of sender c, and that of the owner, which have seen nothing
abbrev pub sender_chair : TableId → Layout → ℕ → Standing
sender_chair queue layout c = record { queue = queue; part = sender_part layout c; others = [] }

abbrev pub owner_chair : TableId → Layout → Standing
owner_chair queue layout = record { queue = queue; part = owner_part layout; others = [] }
