use Rattle.wq_check.proofs.Standing.{away-pending, not-is}
use Rattle.wq_check.proofs.queue.Queue.is_pending.Goals as goal

pub returns : goal.returns
returns c = λ h o.
    let away = away-pending _ h o c.args.number c.requires in
    let test = not-is _ _ c.is_at.ensures in
    (λ is. away.0 (test.0 is), λ pends. test.1 (away.1 pends))
