use Rattle.wq_machine.proofs.Common.{inl, sym, ◌∙◌, eq-eqb, MatchResult-from_err}
use Rattle.wq_machine.proofs.Stored.{grows, stored_push, stored_lost}
use Rattle.wq_machine.proofs.machine.Core.push.Goals as goal

pub invariant_of-self : goal.invariant_of-self
invariant_of-self c =
    let made = rw (← c.self.view_is) at c.requires in
    stored_lost _ _ _ c.self.invariant c.args.sender made.0.0.0

pub invariant_of-self-2 : goal.invariant_of-self-2
invariant_of-self-2 c =
    let made = rw (← c.self.view_is) at c.requires in
    let word = rw c.deref-2.ensures.value at c.word-head.ensures in
    let seen = rw (c.private_at.ensures, c.deref.ensures.value) at c.unwrap_or-seen.ensures in
    rw (c.in_ok-push.ensures.items, c.to_word.ensures.word)
    (stored_push _ _ _ c.self.invariant c.args.sender c.args.number made.0.0.0 made.0.1 made.1 (sym word ∙ c.if-head-seen.false ∙ seen))

pub returns-in_err-push-clause-memory : goal.returns-in_err-push-clause-memory
returns-in_err-push-clause-memory c =
    let word = rw c.deref-2.ensures.value at c.word-head.ensures in
    let seen = rw (c.private_at.ensures, c.deref.ensures.value) at c.unwrap_or-seen.ensures in
    MatchResult-from_err c.from_residual.result _ _ c.from_residual.ensures.0
    (λ _. rw (← c.self.view_is, eq-eqb _ _ (sym word ∙ c.if-head-seen.false ∙ seen)) (inl (grows _ _)))
