use Rattle.wq_words.specs.Headline.{KeepsHeadline}
use Rattle.wq_words.proofs.Headlines.{keeps_headline}
use Rattle.wq_delay.proofs.Common.{subst, DelayState}
use Rattle.wq_delay.proofs.delay.Delay.fit.Goals as goal

pub returns-clause-headline : goal.returns-clause-headline
returns-clause-headline c = let s = c.self.inside.sender in
    subst (λ (z : DelayState). KeepsHeadline z.sender.seen) c.self.view_is (keeps_headline s.layout s.seen c.self.invariant.1.legal)
