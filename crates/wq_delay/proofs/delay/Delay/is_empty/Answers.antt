use Rattle.wq_delay.proofs.Common.{ℕ, sym, ◌∙◌, subst, eqb-true, Holds, DelayState}
use Rattle.wq_delay.proofs.OnTable.{empty_free}
use Rattle.wq_delay.proofs.delay.Delay.is_empty.Goals as goal

pub returns-clause-free : goal.returns-clause-free
returns-clause-free c = let i = c.self.inside in
    λ is. subst (λ (z : DelayState). (k : ℕ) → ¬ Holds z.sender.seen z.sender.number k) c.self.view_is
    (empty_free i.sender i.table.entries c.self.invariant.1.held (sym c.len.ensures.count ∙ eqb-true c.len.result 0 is))
