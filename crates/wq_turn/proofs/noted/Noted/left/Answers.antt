use Rattle.wq_turn.proofs.Common.{ap, sym, subst, WorkerState, IsClosed}
use Rattle.wq_turn.specs.Drained.{IsDrained}
use Rattle.wq_turn.proofs.noted.Noted.left.Goals as goal

pub returns : goal.returns
returns g c =
    let same = ap g.K.Station.state c.self.view_is in
    record {
      left = subst (λ (w : WorkerState _). IsDrained c.left.result w) same
          (record {
            legal = c.legal.ensures.legal;
            closed = subst (λ (w : WorkerState _). IsClosed w.seen) (sym same) c.requires;
            left_is = c.left.ensures;
          });
    }
