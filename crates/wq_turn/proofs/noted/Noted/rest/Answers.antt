use Rattle.wq_turn.proofs.Common.{rest_events}
use Rattle.wq_turn.proofs.Moved.{noted_moved}
use Rattle.wq_turn.proofs.noted.Noted.rest.Goals as goal

pub invariant_of-self : goal.invariant_of-self
invariant_of-self g c =
    let s = g.K.Station.state in
    noted_moved c.self.inside.stop_item (rest_events c.rest.result) 0 (s c.self.inside.worker) (s c.rest.new.self) c.rest.ensures.events c.self.invariant
