use Rattle.wq_machine.proofs.Stored.{stored_look}
use Rattle.wq_machine.proofs.machine.Core.look.Goals as goal

pub invariant_of-self : goal.invariant_of-self
invariant_of-self c =
    let made = rw (← c.self.view_is) at c.requires in
    rw (c.word-head.ensures, c.deref.ensures.value) (stored_look _ _ _ c.self.invariant c.args.sender made.0.0.0)
