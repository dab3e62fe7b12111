use Rattle.wq_check.proofs.Common.{refl, false≢true}
use Rattle.wq_check.proofs.Standing.{push_too}
use Rattle.wq_check.proofs.queue.Queue.push_cause.Goals as goal

pub returns-then-not-is_held : goal.returns-then-not-is_held
returns-then-not-is_held c = λ h o holds. false≢true ((c.if-not-is_held.ensures h o).1 holds)

pub returns : goal.returns
returns c = λ h o. push_too h c.args.sender c.args.number _ ((c.if-not-is_held.ensures h o).0 refl) (c.shut_cause.ensures.take h o)
