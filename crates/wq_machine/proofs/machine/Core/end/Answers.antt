use Rattle.wq_machine.proofs.Common.{◌∙◌}
use Rattle.wq_words.proofs.Running.{runs_some}
use Rattle.wq_machine.proofs.Stored.{stored_end}
use Rattle.wq_machine.proofs.machine.Core.end.Goals as goal

pub invariant_of-self-2 : goal.invariant_of-self-2
invariant_of-self-2 c =
    rw (c.in_ok-push.ensures.items, c.word-done.ensures, c.deref.ensures.value, c.done_place-place.ensures.place)
    (stored_end _ _ _ c.self.invariant c.in-Some.number c.in-Some.is)

pub unreachable-requires : goal.unreachable-requires
unreachable-requires c =
    let made = rw (← c.self.view_is) at c.requires in
    let some = runs_some c.self.inside.history.items made.1 in
    c.in_default.not-Some some.0 (c.self.invariant.running_is ∙ some.1)
