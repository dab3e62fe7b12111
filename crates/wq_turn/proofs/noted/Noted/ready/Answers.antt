use Rattle.wq_turn.proofs.Common.{IsNoted}
use Rattle.wq_turn.proofs.Moved.{ready_keeps, noted_moved}
use Rattle.wq_turn.proofs.noted.Noted.ready.Goals as goal

pub invariant_of-self : goal.invariant_of-self
invariant_of-self g c =
    let s = g.K.Station.state in let n = c.self.inside.stop_item in
    ready_keeps (IsNoted n) (noted_moved n) c.ready.result (s c.self.inside.worker) (s c.ready.new.self) c.ready.ensures.outcome c.self.invariant
