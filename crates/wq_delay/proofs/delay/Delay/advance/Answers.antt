use Rattle.wq_delay.proofs.Common.{ap, ◌∙◌, arith, length, DelayState, Entry}
use Rattle.wq_delay.proofs.Advancing.{posts_before}
use Rattle.wq_delay.proofs.Pushed.{pushed_due}
use Rattle.wq_delay.proofs.delay.Delay.advance.Goals as goal

pub returns-clause-answer : goal.returns-clause-answer
returns-clause-answer c =
    let l = c.lead_on-self-inside.ensures in let p = c.post_due-pushed in let is = c.self.view_is in
    let tick = ap (λ (z : DelayState). z.table.tick) is in let many = ap (length {A = Entry}) l.entries in (
      omega (arith, c.if-now-tick.false, c.tick.ensures, tick),
      posts_before c.args.now _ c.args.tries _ _ c.args.self.now _ p.new.self p.ensures.posts l.tick (ap (λ (z : DelayState). z.sender) is)
          (l.entries ∙ ap (λ (z : DelayState). z.table.entries) is) (ap (λ (z : DelayState). z.table.next) is),
      omega (arith, c.len-armed.ensures.count, p.ensures.sum, many),
    )

pub returns-clause-accepted : goal.returns-clause-accepted
returns-clause-accepted c = pushed_due c.args.now c.args.tries _ _ c.args.self.now _ (returns-clause-answer c).1
