use Rattle.wq_script.proofs.Moved.{modified_so}
use Rattle.wq_script.proofs.seats.Seats.modify.Goals as goal

pub returns : goal.returns
returns c = λ layout h g. modified_so layout c.args.self.now c.publish.new.self h g c.modify-modified.new.self c.publish.ensures.delay c.fit.ensures.fit
    c.args.item c.args.delay c.modify-modified.result c.modify-modified.ensures.far c.modify-modified.ensures.memory c.modify-modified.ensures.answer
