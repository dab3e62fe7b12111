use Rattle.wq_machine.proofs.Stored.{holds_stored}
use Rattle.wq_machine.proofs.machine.Core.is_held.Goals as goal

pub returns : goal.returns
returns c =
    let number = rw (← c.self.view_is) at c.requires in
    let same = holds_stored _ _ _ c.self.invariant c.args.sender c.args.number number in
    let answer = rw c.deref.ensures.value at c.is_holder.ensures in
    rw (← c.self.view_is) (λ yes. same.0 (answer.0 yes), λ holds. answer.1 (same.1 holds))
