use Rattle.wq_values.proofs.Common.{subst, IsLegal, KnownWith}
use Rattle.wq_values.proofs.value_sender.ValueSender.layout.Goals as goal

pub returns-clause-legal : goal.returns-clause-legal
returns-clause-legal g c = subst (λ (v : KnownWith g.row.V.Denot). IsLegal v.known.layout v.known.seen) c.self.view_is c.self.invariant.sends.legal
