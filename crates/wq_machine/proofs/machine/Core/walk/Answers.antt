use Rattle.wq_machine.proofs.Common.{rules, ◌≡◌, ◌≢◌, get_or, length, None, [], ◌∷◌, ◌++◌, reverse, refl, sym, ap, ◌∙◌, arith, ⊎_elim, common_steps, link_place}
use Rattle.wq_machine.proofs.Common.{number_at}
use Rattle.std.proofs.lemmas.Bool.{ne_eqb}
use Rattle.wq_core.proofs.Chains.{number_at-none}
use Rattle.wq_core.proofs.OwnerSteps.{cursor_is, first_of_batch}
use Rattle.wq_machine.proofs.Stored.{by_top, stored_walk_end, stored_walk_on}
use Rattle.wq_machine.proofs.machine.Core.walk.Goals as goal
use Rattle.wq_machine.proofs.machine.Core.walk.Goals.{After-swap, Else-is_none}

pub linked-requires : goal.linked-requires
linked-requires c =
    let made = rw (← c.self.view_is) at c.requires in
    let still : c.self.inside.cursor ≡ None = c.in_default.is in
    let some : reverse c.self.inside.batch.items ≢ [] = ⊎_elim (λ ne. absurd (ne still)) (λ ne. ne) made.1 in
    let len : c.len.result ≡ length c.self.inside.batch.items = omega arith in
    let split = by_top c.self.inside.batch.items c.index-first.result.now some (rw len at c.index-first.ensures) in
    rw (← c.self.view_is) (first_of_batch _ c.self.invariant.sound c.index-first.result.now _ still split).0

pub returns-in_default-clause-reply : goal.returns-in_default-clause-reply
returns-in_default-clause-reply c =
    let made = rw (← c.self.view_is) at c.requires in
    let still : c.self.inside.cursor ≡ None = c.in_default.is in
    let some : reverse c.self.inside.batch.items ≢ [] = ⊎_elim (λ ne. absurd (ne still)) (λ ne. ne) made.1 in
    let len : c.len.result ≡ length c.self.inside.batch.items = omega arith in
    let split = by_top c.self.inside.batch.items c.index-first.result.now some (rw len at c.index-first.ensures) in
    rw (c.linked.ensures, ← c.self.view_is, still, split) refl

pub linked-next-requires : goal.linked-next-requires
linked-next-requires c = rw (← c.self.view_is) (cursor_is _ c.self.invariant.sound c.in-Some.number c.in-Some.is)

-- the end was reached, and all that was walked stands behind the batch
ended : (c : After-swap) → (get_or c.self.inside.words.items (link_place c.in-Some.number) 0 ≡ 0)
    × (reverse c.swap.new.y.items ≡ reverse c.self.inside.batch.items ++ c.in-Some.number ∷ reverse c.self.inside.walked.items)
    × (reverse c.swap.new.x.items ≡ []) × (c.linked-next.result ≡ None)
ended c =
    let word = rw (← c.self.view_is) at c.linked-next.ensures in
    let next : c.linked-next.result ≡ None = search rules in
    (number_at-none _ (sym word ∙ next), grind (arith, common_steps), grind (arith, common_steps), next)

pub invariant_of-self-then-is_none : goal.invariant_of-self-then-is_none
invariant_of-self-then-is_none c =
    let end = ended c in
    rw (end.1, end.2, end.3) (stored_walk_end _ _ _ c.self.invariant c.in-Some.number c.in-Some.is end.0)

pub returns-in_ok-append-clause-after : goal.returns-in_ok-append-clause-after
returns-in_ok-append-clause-after c =
    let end = ended c in
    rw (← c.self.view_is, c.in-Some.is, ← c.self.view_is, end.0, end.1, end.2, end.3) refl

-- the number was walked, and another follows
followed : (c : Else-is_none) → (get_or c.self.inside.words.items (link_place c.in-Some.number) 0 ≢ 0)
    × (reverse c.push.new.self.items ≡ c.in-Some.number ∷ reverse c.self.inside.walked.items)
followed c =
    let word = rw (← c.self.view_is) at c.linked-next.ensures in
    let some : c.linked-next.result ≢ None = search rules in
    (λ e. some (word ∙ ap number_at e), grind (arith, common_steps))

pub invariant_of-self-else-is_none : goal.invariant_of-self-else-is_none
invariant_of-self-else-is_none c =
    let word = rw (← c.self.view_is) at c.linked-next.ensures in
    let next = followed c in
    rw (next.1, word) (stored_walk_on _ _ _ c.self.invariant c.in-Some.number c.in-Some.is next.0)

pub returns-else-is_none-clause-after : goal.returns-else-is_none-clause-after
returns-else-is_none-clause-after c =
    let word = rw (← c.self.view_is) at c.linked-next.ensures in
    let next = followed c in
    rw (← c.self.view_is, c.in-Some.is, ← c.self.view_is, next.1, word, ne_eqb _ _ next.0) refl
