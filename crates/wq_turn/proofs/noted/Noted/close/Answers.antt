use Rattle.wq_turn.proofs.Common.{[], ◌∷◌, Close}
use Rattle.wq_turn.proofs.Moved.{noted_moved}
use Rattle.wq_turn.proofs.noted.Noted.close.Goals as goal

pub invariant_of-self : goal.invariant_of-self
invariant_of-self g c =
    let s = g.K.Station.state in
    noted_moved c.self.inside.stop_item (Close ∷ []) 0 (s c.self.inside.worker) (s c.close.new.self) c.close.ensures.events c.self.invariant
