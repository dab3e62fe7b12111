use Rattle.wq_machine.proofs.Common.{rules, arith, common_steps, inl, inr, ⊎_elim, sym, ◌∙◌, false≢true}
use Rattle.wq_words.proofs.Times.{any_stored}
use Rattle.wq_machine.proofs.machine.Core.is_enabled.Goals as goal

pub returns-then-is_held : goal.returns-then-is_held
returns-then-is_held c = search rules

pub returns-then-is_held-2 : goal.returns-then-is_held-2
returns-then-is_held-2 c = search rules

pub returns-then-is_none : goal.returns-then-is_none
returns-then-is_none c = grind (arith, common_steps)

pub returns-else-is_some : goal.returns-else-is_some
returns-else-is_some c = grind (arith, common_steps)

pub returns-else-not-is_empty : goal.returns-else-not-is_empty
returns-else-not-is_empty c = grind (arith, common_steps)

pub returns-then-contains : goal.returns-then-contains
returns-then-contains c =
    let is = rw c.deref.ensures.value at c.contains.ensures.value in
    let walked = (any_stored c.in-Owner-Turn.number c.self.inside.walked.items).0 (sym is ∙ c.if-contains.true) in
    rw (c.in-Owner-Turn.is-0, c.in-Owner-Turn.is-1, ← c.self.view_is) (λ _. inl walked, λ _. c.if-contains.true)

pub returns-else-contains : goal.returns-else-contains
returns-else-contains c =
    let k = c.in-Owner-Turn.number in
    let is = rw c.deref.ensures.value at c.contains.ensures.value in
    let is' = rw c.deref-else-contains.ensures.value at c.contains-else-contains.ensures.value in
    let walked = any_stored k c.self.inside.walked.items in
    let batch = any_stored k c.self.inside.batch.items in
    rw (c.in-Owner-Turn.is-0, c.in-Owner-Turn.is-1, ← c.self.view_is)
    (λ e. inr (batch.0 (sym is' ∙ e)), ⊎_elim (λ there. absurd (false≢true (sym c.if-contains.false ∙ (is ∙ walked.1 there)))) (λ there. is' ∙ batch.1 there))
