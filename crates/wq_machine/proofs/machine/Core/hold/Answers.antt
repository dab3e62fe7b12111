use Rattle.std.proofs.Common.{sym, ◌∙◌}
use Rattle.wq_machine.proofs.Stored.{stored_hold, stored_busy}
use Rattle.wq_machine.proofs.machine.Core.hold.Goals as goal

pub invariant_of-self-then-word-ne0 : goal.invariant_of-self-then-word-ne0
invariant_of-self-then-word-ne0 c =
    let made = rw (← c.self.view_is) at c.requires in
    let word = rw (c.deref.ensures.value, c.item_place-place.ensures.place) at c.word.ensures in
    rw c.in_ok-push.ensures.items (stored_busy _ _ _ c.self.invariant c.args.sender c.args.number made.0.0.0 made.0.1 (λ e. c.if-word-ne0.true (word ∙ e)))

pub invariant_of-self-2 : goal.invariant_of-self-2
invariant_of-self-2 c =
    let made = rw (← c.self.view_is) at c.requires in
    let word = rw (c.deref.ensures.value, c.item_place-place.ensures.place) at c.word.ensures in
    rw (c.in_ok-push-2.ensures.items, c.item_place-place.ensures.place)
    (stored_hold _ _ _ c.self.invariant c.args.sender c.args.number made.0.0.0 made.0.1 (sym word ∙ c.if-word-ne0.false))
