-- How the seats of a queue are made.
use Rattle.std.specs.Prelude.{◌≡◌, ℕ, ◌-◌, ◌<◌, [], map}
use Rattle.std.specs.Arc.{arc_value}
use Rattle.wq_words.specs.declared.layout.Layout.{Layout}
use Rattle.wq_words.specs.Numbers.{number_count}
use Rattle.wq_core.specs.Words.{word_count}
use Rattle.wq_table.specs.declared.making.Uncut.{Uncut}
use Rattle.wq_table.specs.Law.{row}
use Rattle.wq_table.specs.Slots.{telling}

-- The words are those of a queue of this size, with a slot for each number or none, and the seat speaks for the owner and for all
-- senders but those below n.
pub record IsCutTo {V : Type 0} (layout : Layout) (n : ℕ) (it : Uncut V) : Type 0 where
  pub seated : it.seat.table_id ≡ (arc_value it.words).shared.table_id
  pub wide : it.seat.table_id.words ≡ word_count (number_count layout)
  pub deep : 0 < it.seat.table_id.slots → it.seat.table_id.slots ≡ number_count layout
  pub keyed : (arc_value it.words).shared.key ≡ layout
  pub speaks : it.seat.me ≡ (map (telling []) (row layout n (layout.senders - n)), [])
