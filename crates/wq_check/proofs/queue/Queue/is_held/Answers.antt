use Rattle.wq_check.proofs.Standing.{held-holds}
use Rattle.wq_check.proofs.queue.Queue.is_held.Goals as goal

pub returns : goal.returns
returns c = λ h o.
    let held = held-holds _ h o c.args.sender c.args.number c.requires in
    (λ is. held.0 (c.is_at.ensures.0 is), λ holds. c.is_at.ensures.1 (held.1 holds))
