use Rattle.wq_script.proofs.Moved.{cancelled_so}
use Rattle.wq_script.proofs.seats.Seats.cancel.Goals as goal

pub returns : goal.returns
returns c = λ layout h g.
    cancelled_so layout c.args.self.now c.publish.new.self h g c.cancel-was_on_table.new.self c.publish.ensures.delay c.fit.ensures.fit
    c.args.item c.cancel-was_on_table.result c.cancel-was_on_table.ensures.answer
