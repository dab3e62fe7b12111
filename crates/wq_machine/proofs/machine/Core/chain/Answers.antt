use Rattle.wq_machine.proofs.Common.{◌≡◌, sym, ◌∙◌, [], ◌∷◌, ◌++◌, reverse, arith, common_steps}
use Rattle.wq_machine.proofs.Stored.{stored_chain, stored_chain_busy}
use Rattle.wq_machine.proofs.machine.Core.chain.Goals as goal

pub invariant_of-self-then-word-ne0 : goal.invariant_of-self-then-word-ne0
invariant_of-self-then-word-ne0 c =
    let made = rw (← c.self.view_is) at c.requires in
    let word = rw (c.deref.ensures.value, c.item_place-place.ensures.place) at c.word.ensures in
    rw c.in_ok-push.ensures.items (stored_chain_busy _ _ _ c.self.invariant c.args.number made.0.1 made.1.0 made.1.2 (λ e. c.if-word-ne0.true (word ∙ e)))

pub invariant_of-self-2 : goal.invariant_of-self-2
invariant_of-self-2 c =
    let made = rw (← c.self.view_is) at c.requires in
    let word = rw (c.deref.ensures.value, c.item_place-place.ensures.place) at c.word.ensures in
    let chained : reverse c.insert.new.self.items ≡ reverse c.self.inside.batch.items ++ c.args.number ∷ [] = grind (arith, common_steps) in
    rw (c.in_ok-push-2.ensures.items, c.item_place-place.ensures.place, chained)
    (stored_chain _ _ _ c.self.invariant c.args.number made.0.1 made.1.0 made.1.1 made.1.2 (sym word ∙ c.if-word-ne0.false))
