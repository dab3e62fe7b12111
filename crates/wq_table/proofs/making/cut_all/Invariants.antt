use Rattle.wq_table.proofs.Common.{◌≡◌, value_senders}
use Rattle.wq_table.specs.Making.{IsCutTo}
use Rattle.wq_table.proofs.making.cut_all.Given as goal

abbrev pub invariant-loop-number : goal.invariant-loop-number
invariant-loop-number g l = IsCutTo l.layout l.number l.uncut × (l.uncut.seat.table_id ≡ l.fn.uncut.seat.table_id) ×
    (l.senders.items ≡ value_senders l.uncut.seat.table_id l.layout l.number)
