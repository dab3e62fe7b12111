use Rattle.wq_script.proofs.Common.{◌≡◌, take}
use Rattle.wq_script.proofs.lists.copy_of.Given as goal

abbrev pub invariant-loop-item : goal.invariant-loop-item
invariant-loop-item l = l.copy.items ≡ take l.item-index l.items
