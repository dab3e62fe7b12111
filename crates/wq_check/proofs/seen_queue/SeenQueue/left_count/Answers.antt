use Rattle.std.proofs.Common.{◌∙◌, sym, ap, arith, length}
use Rattle.wq_check.proofs.Looking.{left_rests, left_runs}
use Rattle.wq_check.proofs.seen_queue.SeenQueue.left_count.Goals as goal

pub returns-in-Some : goal.returns-in-Some
returns-in-Some c = λ t o.
    let runs = left_runs _ t (rw (← c.self.view_is) at o) c.in-Some.field-0 c.in-Some.is in
    omega (arith, c.len.ensures.len, ap length runs)

pub returns-in-None : goal.returns-in-None
returns-in-None c = λ t o.
    let rests = left_rests _ t (rw (← c.self.view_is) at o) c.in-None.is in
    c.len-in-None.ensures.len ∙ ap length (sym rests)
