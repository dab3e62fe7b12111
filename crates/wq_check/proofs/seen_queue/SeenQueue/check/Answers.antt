use Rattle.wq_check.proofs.Common.{arith, subst, ◌<◌, number_of}
use Rattle.wq_check.proofs.Looking.{refuses_mark}
use Rattle.wq_check.proofs.seen_queue.SeenQueue.check.Goals as goal

pub returns-in-Some-clause-refused : goal.returns-in-Some-clause-refused
returns-in-Some-clause-refused c = λ t o.
    let says = c.in-Some.ensures t o in
    let small = subst (λ q. number_of c.args.mark < q.layout.items) c.self.view_is (omega (arith, c.if-number-self.false, c.number.ensures)) in
    (small, refuses_mark t c.args.mark c.in-Some.cause says, says)
