use Rattle.std.proofs.lemmas.Bool.{false≢true}
use Rattle.wq_check.proofs.queue.Queue.busy_cause.Goals as goal

pub returns-then-not-is_pending : goal.returns-then-not-is_pending
returns-then-not-is_pending c = λ h o pends. false≢true ((c.if-not-is_pending.ensures h o).1 pends)
