use Rattle.std.proofs.lemmas.Bool.{false≢true}
use Rattle.wq_check.proofs.queue.Queue.back_cause.Goals as goal

pub returns-then-not-is_held : goal.returns-then-not-is_held
returns-then-not-is_held c = λ h o holds. false≢true ((c.if-not-is_held.ensures h o).1 holds)
