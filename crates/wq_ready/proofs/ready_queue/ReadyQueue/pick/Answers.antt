use Rattle.wq_ready.proofs.Kept.{gets, learns}
use Rattle.wq_ready.proofs.ready_queue.ReadyQueue.pick.Goals as goal

pub pop_as-requires-clause-rule : goal.pop_as-requires-clause-rule
pop_as-requires-clause-rule g c = let one = c.caller.invariant.one in (gets _ _ _ one, learns _ _ _ one)
