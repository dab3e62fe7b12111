use Rattle.wq_machine.proofs.Common.{ℕ, ◌<◌, ◌≤◌, Option, Some, None, IfSome, arith, number_count, Layout, word_at}
use Rattle.wq_machine.proofs.Stored.{stored_turn}
use Rattle.wq_machine.proofs.machine.Core.turn.Goals as goal

small : (layout : Layout) (next : Option ℕ) → IfSome next (λ j. j < number_count layout) → word_at next ≤ number_count layout
small layout None below = omega arith
small layout (Some j) below = omega (arith, below)

pub invariant_of-self : goal.invariant_of-self
invariant_of-self c =
    let made = rw (← c.self.view_is) at c.requires in
    rw (c.link_place.ensures.place, c.word_at.ensures.word)
    (stored_turn _ _ _ c.self.invariant c.args.number (word_at c.args.next) made.1 made.0.1.0 (small c.self.inside.layout c.args.next made.0.1.1))
