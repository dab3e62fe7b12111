use Rattle.wq_check.proofs.Common.{refl, false≢true}
use Rattle.wq_check.proofs.Standing.{is-shut, not-shut, runs_not, runs_one}
use Rattle.wq_check.proofs.queue.Queue.chain_cause.Goals as goal

pub returns-then-not-self : goal.returns-then-not-self
returns-then-not-self c = λ h o. (not-shut _ h (rw (← c.self.view_is) at o)).0 c.if-not-self.true

pub returns-then-is_none : goal.returns-then-is_none
returns-then-is_none c = λ h o.
    let at = rw (← c.self.view_is) at o in
    ((is-shut _ h at).0 c.if-not-self.false, runs_not _ h at c.if-is_none.ensures)

pub returns-then-is_pending : goal.returns-then-is_pending
returns-then-is_pending c = λ h o.
    let at = rw (← c.self.view_is) at o in
    ((is-shut _ h at).0 c.if-not-self.false, runs_one _ h at c.if-is_none.ensures, (c.if-is_pending.ensures h o).0 refl)

pub returns : goal.returns
returns c = λ h o.
    let at = rw (← c.self.view_is) at o in
    ((is-shut _ h at).0 c.if-not-self.false, runs_one _ h at c.if-is_none.ensures, λ pends. false≢true ((c.if-is_pending.ensures h o).1 pends))
