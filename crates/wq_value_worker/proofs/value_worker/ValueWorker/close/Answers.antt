use Rattle.wq_value_worker.proofs.Common.{[], ◌∷◌, ap, sym, refl, subst, IsRunning, IsClosed, Close, Learnt, owner_of, Moves, ValueWorkerState, owner_in}
use Rattle.wq_value_worker.proofs.ValueState.{value_state_of, value_fit_owner, value_moves_owner}
use Rattle.wq_value_worker.proofs.value_worker.ValueWorker.close.Goals as goal

pub close-requires : goal.close-requires
close-requires g c =
    record { unclosed = subst (λ (z : ValueWorkerState g.row.V.Denot g.row.W.Denot). ¬ IsClosed z.worker.seen) (sym c.self.view_is) c.requires.unclosed }

pub invariant_of-self : goal.invariant_of-self
invariant_of-self g c =
    let e = c.close.ensures in
    value_fit_owner (Close ∷ []) 0 0 c.self.inside.pair c.close.new.self e.seen e.others _ _ refl c.self.invariant
    (record { learnt = e.learnt; handed_same = e.handed })

pub returns : goal.returns
returns g c =
    let i = c.self.inside in let e = c.close.ensures in let q = c.close.new.self in let is = c.self.view_is in
    let w : ValueWorkerState g.row.V.Denot g.row.W.Denot = value_state_of q i.tries i.left.pairs i.work in record {
      work = (
        ap (λ (z : ValueWorkerState g.row.V.Denot g.row.W.Denot). z.worker.work) is,
        ap (λ (z : ValueWorkerState g.row.V.Denot g.row.W.Denot). z.worker.unqueued) is,
      );
      pairs = ap (λ (z : ValueWorkerState g.row.V.Denot g.row.W.Denot). z.unqueued) is;
      learnt = subst (λ (z : ValueWorkerState g.row.V.Denot g.row.W.Denot). Learnt (owner_in z) (owner_of q)) is e.learnt;
      events = subst (λ (z : ValueWorkerState g.row.V.Denot g.row.W.Denot). Moves (Close ∷ []) 0 z.worker w.worker) is
          (value_moves_owner (Close ∷ []) 0 0 i.pair q e.seen e.others i.tries i.left.pairs i.work);
      takes = e.takes;
      closed = e.closed;
      idle = subst (λ (z : ValueWorkerState g.row.V.Denot g.row.W.Denot). ¬ IsRunning z.worker.seen → ¬ IsRunning q.known.seen) is e.idle;
      legal = e.seen.legal;
    }
