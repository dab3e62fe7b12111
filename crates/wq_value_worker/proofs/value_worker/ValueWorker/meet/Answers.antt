use Rattle.wq_value_worker.proofs.Common.{[], ap, refl, ◌∙◌, subst, IsShut, IsClosed, IsRunning, Learnt, owner_of, pair_owner, Moves}
use Rattle.wq_value_worker.proofs.Common.{ValueWorkerState, owner_in}
use Rattle.wq_worker.specs.Resting.{HasNoneLeft}
use Rattle.wq_value_worker.proofs.ValueState.{value_state_of, value_fit_owner, value_moves_owner}
use Rattle.wq_calls.proofs.PhaseKept.{open_still, unclosed_still, phase_grown}
use Rattle.wq_calls.proofs.Owned.{idle_still}
use Rattle.wq_worker.proofs.Resting.{none_left_still}
use Rattle.wq_value_worker.proofs.value_worker.ValueWorker.meet.Goals as goal

pub invariant_of-self : goal.invariant_of-self
invariant_of-self g c =
    let e = c.meet.ensures in
    value_fit_owner [] 0 0 c.self.inside.pair c.meet.new.self e.owner e.sender _ _ refl c.self.invariant
    (record { learnt = e.learnt; handed_same = e.handed })

pub returns : goal.returns
returns g c =
    let i = c.self.inside in let e = c.meet.ensures in let q = c.meet.new.self in let is = c.self.view_is in
    let was = i.pair.known.seen in let now = q.known.seen in let phase = phase_grown [] 0 was now e.owner.grows refl in
    let w : ValueWorkerState g.row.V.Denot g.row.W.Denot = value_state_of q i.tries i.left.pairs i.work in record {
      work = (
        ap (λ (z : ValueWorkerState g.row.V.Denot g.row.W.Denot). z.worker.work) is,
        ap (λ (z : ValueWorkerState g.row.V.Denot g.row.W.Denot). z.worker.unqueued) is,
      );
      pairs = ap (λ (z : ValueWorkerState g.row.V.Denot g.row.W.Denot). z.unqueued) is;
      worker = subst (λ (z : ValueWorkerState g.row.V.Denot g.row.W.Denot). Moves [] 0 z.worker w.worker) is
          (value_moves_owner [] 0 0 i.pair q e.owner e.sender i.tries i.left.pairs i.work);
      learnt = (subst (λ (z : ValueWorkerState g.row.V.Denot g.row.W.Denot). Learnt (owner_in z) (owner_of q)) is e.learnt, e.theirs);
      sender = e.that;
      own = e.own;
      own_values = e.own_values;
      layout = e.layout ∙ ap (λ (z : ValueWorkerState g.row.V.Denot g.row.W.Denot). z.worker.layout) is;
      both = e.both;
      brought = e.brought;
      «open» = subst (λ (z : ValueWorkerState g.row.V.Denot g.row.W.Denot). ¬ IsShut z.worker.seen → ¬ IsShut now) is (open_still was now phase);
      unclosed = subst (λ (z : ValueWorkerState g.row.V.Denot g.row.W.Denot). ¬ IsClosed z.worker.seen → ¬ IsClosed now) is (unclosed_still was now phase);
      idle = subst (λ (z : ValueWorkerState g.row.V.Denot g.row.W.Denot). ¬ IsRunning z.worker.seen → ¬ IsRunning now) is
          (idle_still 0 was now e.owner.grows);
      none = subst (λ (z : ValueWorkerState g.row.V.Denot g.row.W.Denot). HasNoneLeft z.worker.seen → HasNoneLeft now) is
          (none_left_still 0 (pair_owner i.pair.known) (pair_owner q.known) refl e.owner e.owner.grows);
    }
