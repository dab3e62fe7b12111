use Rattle.wq_live.proofs.Common.{subst, IsLegal, KeepsHeadline, keeps_headline, Known, sending_in}
use Rattle.wq_calls.proofs.Sends.{sender_low}
use Rattle.wq_live.proofs.sender.Sender.legal.Goals as goal

pub returns-clause-legal : goal.returns-clause-legal
returns-clause-legal c = subst (λ (v : Known). IsLegal v.layout v.seen) c.self.view_is c.self.invariant.sends.legal

pub returns-clause-headline : goal.returns-clause-headline
returns-clause-headline c = let s = (sending_in 0 c.self.inside.chair c.self.inside.sent) in
    subst (λ (v : Known). KeepsHeadline v.seen) c.self.view_is (keeps_headline s.layout s.chair.part.seen c.self.invariant.sends.legal)

pub returns-clause-low : goal.returns-clause-low
returns-clause-low c = sender_low (sending_in 0 c.self.inside.chair c.self.inside.sent) c.args.self.now c.self.view_is c.self.invariant.sends
