use Rattle.wq_value_worker.proofs.Common.{MatchOption, refl, ap, sym, ◌∙◌, subst, IsRunning, Learnt, KnownValuePair, owner_of, taking, Both, IsReady, IsUnready}
use Rattle.wq_value_worker.proofs.Common.{ValueWorkerState, owner_in, IsShut, IsClosed, IsLegal}
use Rattle.wq_worker.specs.Resting.{owed}
use Rattle.wq_worker.proofs.Owned.{quiet_stays, owner_of_both}
use Rattle.wq_words.proofs.Running.{runs_told, idle_told}
use Rattle.wq_worker.specs.State.{IsSameWorker}
use Rattle.wq_worker.proofs.Rows.{worker_still, moves_same}
use Rattle.wq_worker.proofs.State.{quiet_taking}
use Rattle.wq_worker.proofs.Step.{moves_by}
use Rattle.wq_worker.proofs.Resting.{ready_told}
use Rattle.wq_value_worker.proofs.ValueState.{value_state_of, keeps_still, keeps_or, value_fit_both}
use Rattle.wq_calls.proofs.PhaseKept.{open_still, unclosed_still}
use Rattle.wq_value_worker.proofs.value_worker.ValueWorker.ready.Goals as goal

pub returns-then-is_some : goal.returns-then-is_some
returns-then-is_some g c =
    let p = c.self.inside.pair in let is = c.self.view_is in
    let runs : IsRunning p.known.seen =
    runs_told p.known.seen c.running.result c.running.ensures.runs (sym c.is_some.ensures ∙ c.if-is_some.true) in record {
      outcome = owed (subst (λ (z : ValueWorkerState g.row.V.Denot g.row.W.Denot). IsRunning z.worker.seen) is runs) refl;
      «open» = λ was. was;
      unclosed = λ was. was;
      pairs = refl;
      learnt = subst (λ (z : ValueWorkerState g.row.V.Denot g.row.W.Denot). Learnt (owner_in z) (owner_in z)) is
          (keeps_still _ _ p c.self.invariant).learnt;
      same = worker_still c.args.self.now.worker;
      legal = subst (λ (z : ValueWorkerState g.row.V.Denot g.row.W.Denot). IsLegal z.worker.layout z.worker.seen) is c.self.invariant.legal;
    }

pub invariant_of-self : goal.invariant_of-self
invariant_of-self g c =
    let o : KnownValuePair g.row.V.Denot = c.self.inside.pair in let p : KnownValuePair g.row.V.Denot = c.take_next.new.pair in
    let e = c.take_next.ensures in
    value_fit_both _ _ (taking o.known.seen) o p (quiet_taking o.known.seen).begun_none c.self.invariant (keeps_or _ _ o p c.self.invariant e.kept) e.both

pub returns : goal.returns
returns g c =
    let i = c.self.inside in let o = i.pair.known in let p = c.take_next.new.pair.known in let e = c.take_next.ensures in let is = c.self.view_is in
    let b : Both (taking o.seen) 0 o p = e.both in
    let s = quiet_stays (taking o.seen) o.seen p.seen (quiet_taking o.seen) (owner_of_both o.number (taking o.seen) 0 o.seen p.seen b.adds) in
    let still : ¬ IsRunning o.seen = idle_told o.seen c.running.result c.running.ensures.runs (sym c.is_some.ensures ∙ c.if-is_some.false) in
    let idle : ¬ IsRunning p.seen = rw (s.begun_same, s.ended_same) still in
    let a : ValueWorkerState g.row.V.Denot g.row.W.Denot = value_state_of i.pair i.tries i.left.pairs i.work in
    let w : ValueWorkerState g.row.V.Denot g.row.W.Denot = value_state_of c.take_next.new.pair i.tries i.left.pairs i.work in
    let moved = moves_by (taking o.seen) 0 i.tries w.worker.unqueued w.worker.unqueued i.work i.work o p b in record {
      outcome = subst (λ (z : ValueWorkerState g.row.V.Denot g.row.W.Denot).
          MatchOption c.take_next.result (IsUnready z.worker w.worker) (λ k. IsReady z.worker k w.worker)) is
          (ready_told a.worker w.worker c.take_next.result e.next e.nothing idle moved (refl, refl));
      «open» = subst (λ (z : ValueWorkerState g.row.V.Denot g.row.W.Denot). ¬ IsShut z.worker.seen → ¬ IsShut p.seen) is
          (open_still o.seen p.seen s.phase);
      unclosed = subst (λ (z : ValueWorkerState g.row.V.Denot g.row.W.Denot). ¬ IsClosed z.worker.seen → ¬ IsClosed p.seen) is
          (unclosed_still o.seen p.seen s.phase);
      pairs = ap (λ (z : ValueWorkerState g.row.V.Denot g.row.W.Denot). z.unqueued) is;
      learnt = subst (λ (z : ValueWorkerState g.row.V.Denot g.row.W.Denot). Learnt (owner_in z) (owner_of c.take_next.new.pair)) is
          (keeps_or _ _ i.pair c.take_next.new.pair c.self.invariant e.kept).learnt;
      same = subst (λ (z : ValueWorkerState g.row.V.Denot g.row.W.Denot). IsSameWorker z.worker w.worker) is
          (moves_same (taking o.seen) 0 a.worker w.worker moved);
      legal = b.legal;
    }
