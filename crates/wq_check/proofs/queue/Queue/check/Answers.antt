use Rattle.wq_check.proofs.Common.{refl, subst}
use Rattle.wq_words.specs.Legal.{HasSeat, HasNumber}
use Rattle.wq_check.proofs.Standing.{refuses}
use Rattle.wq_check.proofs.queue.Queue.check.Goals as goal

pub returns-in-Some-clause-refused : goal.returns-in-Some-clause-refused
returns-in-Some-clause-refused c = λ h o.
    let says = c.in-Some.ensures.judged h o in
    let seat = subst (λ q. HasSeat q.layout c.args.event) c.self.view_is (c.if-not-has_seat.ensures.seat.0 refl) in
    let number = subst (λ q. HasNumber q.layout c.args.event) c.self.view_is (c.if-not-has_number.ensures.number.0 refl) in
    ((seat, number, refuses h c.args.event c.in-Some.cause says), says)
