use Rattle.std.proofs.Common.{◌∙◌, refl}
use Rattle.wq_check.proofs.Lists.{behind_first}
use Rattle.wq_check.proofs.Looking.{left_rests, left_runs}
use Rattle.wq_check.proofs.seen_queue.SeenQueue.left_at.Goals as goal

pub returns-in-Some : goal.returns-in-Some
returns-in-Some c = λ t o.
    let runs = left_runs _ t (rw (← c.self.view_is) at o) c.in-Some.number c.in-Some.is in
    rw (c.if-place-eq0.true, runs) refl

pub returns-in-Some-2 : goal.returns-in-Some-2
returns-in-Some-2 c = λ t o.
    let runs = left_runs _ t (rw (← c.self.view_is) at o) c.in-Some-2.field-0 c.in-Some-2.is in
    c.copied.ensures ∙ (c.get.ensures ∙ rw runs (behind_first c.in-Some-2.field-0 _ c.args.place c.if-place-eq0.false))

pub returns-in-None : goal.returns-in-None
returns-in-None c = λ t o.
    let rests = left_rests _ t (rw (← c.self.view_is) at o) c.in-None.is in
    c.copied-in-None.ensures ∙ (c.get-in-None.ensures ∙ rw rests refl)
