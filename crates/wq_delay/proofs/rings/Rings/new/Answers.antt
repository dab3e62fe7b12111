use Rattle.std.proofs.lemmas.Iterator.{YieldsList-from_range, items_from_collect}
use Rattle.wq_delay.proofs.Common.{ℕ, Ok, refl, arith}
use Rattle.wq_delay.proofs.rings.Rings.new.Goals as goal

pub returns-clause-next : goal.returns-clause-next
returns-clause-next c =
    items_from_collect {E = ℕ} (Ok c.in_ok-next.next) c.in_ok-next.ensures.ran (YieldsList-from_range 0 c.args.places c.args.places refl (omega arith))

pub returns-clause-previous : goal.returns-clause-previous
returns-clause-previous c =
    items_from_collect {E = ℕ} (Ok c.in_ok-previous.previous) c.in_ok-previous.ensures.ran
    (YieldsList-from_range 0 c.args.places c.args.places refl (omega arith))
