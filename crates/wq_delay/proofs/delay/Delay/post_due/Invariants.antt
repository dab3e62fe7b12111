use Rattle.wq_delay.proofs.Common.{◌≡◌, length}
use Rattle.wq_delay.proofs.Advancing.{Going}
use Rattle.wq_delay.proofs.delay.Delay.post_due.Given as goal

abbrev pub invariant-loop-item : goal.invariant-loop-item
invariant-loop-item l = Going l.fn.self.table.tick l.fn.self l.self l.pushed l.refused × (l.self.looked ≡ l.fn.self.looked)

abbrev pub decreases-loop-item : goal.decreases-loop-item
decreases-loop-item l = length l.self.table.entries
