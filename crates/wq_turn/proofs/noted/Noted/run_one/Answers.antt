use Rattle.wq_turn.proofs.Moved.{noted_run}
use Rattle.wq_turn.proofs.noted.Noted.run_one.Goals as goal

pub invariant_of-self : goal.invariant_of-self
invariant_of-self g c =
    let s = g.K.Station.state in
    noted_run g.K.Station.may g.K.Station.gives c.run_one-ran.result c.self.inside.stop_item c.after-stop_item.result (s c.self.inside.worker)
    (s c.run_one-ran.new.self) c.run_one-ran.ensures.runs c.after-stop_item.ensures c.self.invariant
