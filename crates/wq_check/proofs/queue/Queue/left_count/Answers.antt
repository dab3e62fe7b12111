use Rattle.std.proofs.Common.{◌∙◌, sym, ap, arith, length}
use Rattle.wq_check.proofs.Standing.{left_rests, left_runs}
use Rattle.wq_check.proofs.queue.Queue.left_count.Goals as goal

pub returns-in-Some : goal.returns-in-Some
returns-in-Some c = λ h o.
    let runs = left_runs _ h (rw (← c.self.view_is) at o) c.in-Some.field-0 c.in-Some.is in
    omega (arith, c.len.ensures.len, ap length runs)

pub returns-in-None : goal.returns-in-None
returns-in-None c = λ h o.
    let rests = left_rests _ h (rw (← c.self.view_is) at o) c.in-None.is in
    c.len-in-None.ensures.len ∙ ap length (sym rests)
