use Rattle.crossbeam_queue.specs.Fifo.{Forks}
use Rattle.wq_ready.proofs.Common.{◌<◌, sym, subst, Size, all_callers, no_caller, KeptReady}
use Rattle.wq_ready.proofs.Kept.{sizes}
use Rattle.wq_ready.proofs.ready_queue.tell_size.Goals as goal

pub another-requires-clause-rule : goal.another-requires-clause-rule
another-requires-clause-rule g c =
    let some_queue : 0 < g.B.HasSize.size.queues = subst (λ (s : Size). 0 < s.queues) c.requires.size.0 c.requires.size.1 in
    subst (λ p. Forks KeptReady c.args.pass.now.id p (all_callers g.B.HasSize.size) (no_caller g.B.HasSize.size)) (sym c.requires.pass.1)
    (sizes _ _ some_queue)
