use Rattle.wq_machine.proofs.Common.{inl, sym, ◌∙◌, eq-eqb, MatchResult-from_err}
use Rattle.wq_machine.proofs.Stored.{grows, stored_rest}
use Rattle.wq_machine.proofs.machine.Core.rest.Goals as goal

pub invariant_of-self-2 : goal.invariant_of-self-2
invariant_of-self-2 c =
    let made = rw (← c.self.view_is) at c.requires in
    let word = rw c.deref.ensures.value at c.word-head.ensures in
    rw (c.in_ok-push.ensures.items, c.to_word.ensures.word)
    (stored_rest _ _ _ c.self.invariant made.1.0 made.1.1 made.1.2 made.1.3 (sym word ∙ c.if-head.false))

pub returns-in_err-push-clause-memory : goal.returns-in_err-push-clause-memory
returns-in_err-push-clause-memory c =
    let word = rw c.deref.ensures.value at c.word-head.ensures in
    MatchResult-from_err c.from_residual.result _ _ c.from_residual.ensures.0
    (λ _. rw (← c.self.view_is, eq-eqb _ _ (sym word ∙ c.if-head.false)) (inl (grows _ _)))
