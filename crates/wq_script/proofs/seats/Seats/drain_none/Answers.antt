use Rattle.wq_script.proofs.Drains.{drained_none}
use Rattle.wq_worker.specs.declared.drained.Drained.TheVariants.{Empty, TooLong}
use Rattle.wq_script.proofs.seats.Seats.drain_none.Goals as goal

pub returns-in-Empty : goal.returns-in-Empty
returns-in-Empty c = λ layout h g.
    drained_none layout c.args.self.now c.publish_worker.new.self h g c.drain-drained.new.self Empty c.in-Empty.ensures.drains c.publish_worker.ensures

pub returns-in-TooLong : goal.returns-in-TooLong
returns-in-TooLong c = λ layout h g.
    drained_none layout c.args.self.now c.publish_worker.new.self h g c.drain-drained.new.self (TooLong c.in-TooLong.left) c.in-TooLong.ensures.drains
    c.publish_worker.ensures
