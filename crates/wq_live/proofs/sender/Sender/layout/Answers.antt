use Rattle.wq_live.proofs.Common.{subst, IsLegal, Known}
use Rattle.wq_live.proofs.sender.Sender.layout.Goals as goal

pub returns-clause-legal : goal.returns-clause-legal
returns-clause-legal c = subst (λ (v : Known). IsLegal v.layout v.seen) c.self.view_is c.self.invariant.sends.legal
