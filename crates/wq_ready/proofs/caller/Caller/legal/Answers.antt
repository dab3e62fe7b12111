use Rattle.wq_ready.proofs.Common.{subst, KeepsOrder}
use Rattle.wq_ready.proofs.Order.{keeps_order}
use Rattle.wq_ready.proofs.caller.Caller.legal.Goals as goal

pub returns-clause-order : goal.returns-clause-order
returns-clause-order c = subst (λ k. KeepsOrder k.ready.size k.seen) c.self.view_is (keeps_order _ _ c.self.invariant.legal)
