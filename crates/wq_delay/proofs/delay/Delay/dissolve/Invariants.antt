use Rattle.wq_delay.proofs.Common.{◌≡◌, ℕ, ◌<◌, true, false, on_table}
use Rattle.wq_delay.proofs.Going.{Given}
use Rattle.wq_delay.proofs.delay.Delay.dissolve.Given as goal

abbrev pub invariant-loop-item : goal.invariant-loop-item
invariant-loop-item l =
    Given l.table.size l.initial.sender l.initial.table.entries l.sender l.table.entries
    × ((k : ℕ) → on_table k l.table.entries ≡ true → k < l.item-end)
    × ((k : ℕ) → k < l.item → on_table k l.table.entries ≡ false)
    × (l.table.size ≡ l.item-end)
