use Rattle.wq_value_worker.proofs.Common.{ap, sym, subst, IsShut, KnownValuePair, Learnt, owner_of, rest_events, Moves, ValueWorkerState, owner_in}
use Rattle.wq_worker.specs.Resting.{HasNoneLeft}
use Rattle.wq_worker.proofs.Resting.{begun_rest}
use Rattle.wq_worker.proofs.Step.{moves_by}
use Rattle.wq_value_worker.proofs.ValueState.{value_state_of, value_fit_both}
use Rattle.wq_value_worker.proofs.value_worker.ValueWorker.rest.Goals as goal

pub rest-requires : goal.rest-requires
rest-requires g c = record {
  «open» = subst (λ (z : ValueWorkerState g.row.V.Denot g.row.W.Denot). ¬ IsShut z.worker.seen) (sym c.self.view_is) c.requires.«open»;
  none = subst (λ (z : ValueWorkerState g.row.V.Denot g.row.W.Denot). HasNoneLeft z.worker.seen) (sym c.self.view_is) c.requires.none;
}

pub invariant_of-self : goal.invariant_of-self
invariant_of-self g c =
    let e = c.rest.ensures in
    value_fit_both _ _ (rest_events c.rest.result) c.self.inside.pair c.rest.new.pair (begun_rest c.rest.result) c.self.invariant e.kept e.both

pub returns : goal.returns
returns g c =
    let i = c.self.inside in let o : KnownValuePair g.row.V.Denot = i.pair in let q : KnownValuePair g.row.V.Denot = c.rest.new.pair in
    let xs = rest_events c.rest.result in let e = c.rest.ensures in let is = c.self.view_is in
    let w : ValueWorkerState g.row.V.Denot g.row.W.Denot = value_state_of q i.tries i.left.pairs i.work in record {
      work = (
        ap (λ (z : ValueWorkerState g.row.V.Denot g.row.W.Denot). z.worker.work) is,
        ap (λ (z : ValueWorkerState g.row.V.Denot g.row.W.Denot). z.worker.unqueued) is,
      );
      pairs = ap (λ (z : ValueWorkerState g.row.V.Denot g.row.W.Denot). z.unqueued) is;
      learnt = subst (λ (z : ValueWorkerState g.row.V.Denot g.row.W.Denot). Learnt (owner_in z) (owner_of q)) is e.kept.learnt;
      events = subst (λ (z : ValueWorkerState g.row.V.Denot g.row.W.Denot). Moves xs 0 z.worker w.worker) is
          (moves_by xs 0 i.tries w.worker.unqueued w.worker.unqueued i.work i.work o.known q.known e.both);
      «open» = e.«open»;
      unclosed = e.unclosed;
      none = e.none;
      rested = e.rested;
      refused = e.refused;
    }
