use Rattle.std.proofs.Common.{◌≡◌, take}
use Rattle.wq_words.specs.Keeper as words
use Rattle.wq_machine.specs.Keeper.{kept_by}
use Rattle.wq_machine.proofs.keeper.keeper_of.Given as goal

abbrev pub invariant-loop-event : goal.invariant-loop-event
invariant-loop-event l = kept_by l.kept ≡ words.keeper (take l.event-index l.history) l.number
