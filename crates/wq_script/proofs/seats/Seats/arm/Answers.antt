use Rattle.wq_script.proofs.Delayed.{armed_so}
use Rattle.wq_script.proofs.seats.Seats.arm.Goals as goal

pub returns : goal.returns
returns c = λ layout h g. armed_so layout c.args.self.now c.publish.new.self h g c.arm-armed.new.self c.publish.ensures.delay c.args.item c.args.delay
    c.fit.ensures.fit c.arm-armed.result c.arm-armed.ensures.far c.arm-armed.ensures.memory c.arm-armed.ensures.answer
