use Rattle.wq_worker.proofs.Common.{◌≡◌, ℕ, ◌<◌, ◌≤◌, Option, Some, [], ◌∷◌, arith, ap, sym, refl, ◌∙◌, subst, drop, length, drop_of_length-le}
use Rattle.wq_worker.proofs.Common.{Layout, End, number_count, running, Both, WorkerState, stays, runs_some, IsContended}
use Rattle.std.proofs.Common.{length-drop, get_or, get_or-drop, add-zero}
use Rattle.wq_worker.specs.State.{AreWorkerParts}
use Rattle.wq_worker.specs.Step.{OwesBy, EndsBy, Runs, IsKind}
use Rattle.wq_worker.proofs.Running.{number_runs}
use Rattle.wq_worker.proofs.Follow.{advance_stays, advance_layout, advance_legal}
use Rattle.wq_worker.proofs.State.{advance_fits, fit_both}
use Rattle.wq_worker.proofs.Step.{state_of, advance_owes, advance_ends, runs_kind}
use Rattle.wq_worker.proofs.worker.Worker.finish.Goals as goal

runs_at : {W : Type 0} (a b : WorkerState W) (r : Option ℕ) → a ≡ b → running b.seen ≡ r → running a.seen ≡ r
runs_at a b r is h = ap (λ (z : WorkerState _). running z.seen) is ∙ h

pub queue_rest-at-requires : goal.queue_rest-at-requires
queue_rest-at-requires g c =
    let i = c.self.inside in let k = c.args.number in let long = ap (length {A = ℕ}) c.as_slice.ensures.value in
    let a : WorkerState g.row.W.Denot = state_of i.pair i.tries (drop i.at i.follow.items) i.work in record {
      legal = c.self.invariant.legal;
      runs = runs_some i.pair.seen k (runs_at a c.args.self.now (Some k) c.self.view_is c.requires);
      tries = c.self.invariant.some_try;
      from = omega (arith, c.self.invariant.within, long);
    }

pub invariant_of-self : goal.invariant_of-self
invariant_of-self g c = let i = c.self.inside in let adv = rw c.as_slice.ensures.value at c.queue_rest-at.ensures.queued in
    advance_fits _ i.tries i.at c.queue_rest-at.result i.follow.items _ _ _ _ c.self.invariant adv (omega arith)

pub returns-then-at-len-clause-runs : goal.returns-then-at-len-clause-runs
returns-then-at-len-clause-runs g c =
    let i = c.self.inside in let r = c.queue_rest-at.result in let k = c.args.number in
    let adv = rw c.as_slice.ensures.value at c.queue_rest-at.ensures.queued in
    let low : r < length i.follow.items = omega arith in let fs = i.follow.items in let p = c.queue_rest-at.new.pair in
    let b : WorkerState g.row.W.Denot = state_of p i.tries (drop r fs) i.work in
    let a : WorkerState g.row.W.Denot = state_of i.pair i.tries (drop i.at fs) i.work in
    subst (λ (z : WorkerState g.row.W.Denot). OwesBy g.W.Work.may stays z k b) c.self.view_is
    (advance_owes g.W.Work.may stays k i.tries (drop i.at fs) (drop r fs) i.work i.work i.pair p refl
    (runs_at a c.args.self.now (Some k) c.self.view_is c.requires) (omega (arith, low, length-drop r fs)) adv)

pub end_running-requires : goal.end_running-requires
end_running-requires g c =
    let i = c.self.inside in let k = c.args.number in
    let a : WorkerState g.row.W.Denot = state_of i.pair i.tries (drop i.at i.follow.items) i.work in record {
      runs = runs_some c.queue_rest-at.new.pair.seen k ((advance_stays _ _ _ _ _ c.queue_rest-at.ensures.queued).running_same ∙
          runs_at a c.args.self.now (Some k) c.self.view_is c.requires);
    }

pub of-requires : goal.of-requires
of-requires g c =
    let i = c.self.inside in let k = c.args.number in let a : WorkerState g.row.W.Denot = state_of i.pair i.tries
    (drop i.at i.follow.items) i.work in
    let p = c.queue_rest-at.new.pair in
    let runs : running p.seen ≡ Some k = (advance_stays _ _ _ _ _ c.queue_rest-at.ensures.queued).running_same ∙ runs_at a c.args.self.now
    (Some k) c.self.view_is c.requires in
    let low = number_runs p.layout p.seen k (advance_legal _ _ _ _ _ c.queue_rest-at.ensures.queued) runs in
    subst (λ (z : Layout). k < number_count z) (sym (c.layout.ensures.layout ∙ (c.end_running.ensures.both k runs).layout_is)) low

pub invariant_of-self-2 : goal.invariant_of-self-2
invariant_of-self-2 g c =
    let i = c.self.inside in let k = c.args.number in let a : WorkerState g.row.W.Denot = state_of i.pair i.tries
    (drop i.at i.follow.items) i.work in
    let adv = rw c.as_slice.ensures.value at c.queue_rest-at.ensures.queued in
    let fit : AreWorkerParts (g.W.Work.log i.work) i.tries c.queue_rest-at.result i.follow.items c.queue_rest-at.new.pair =
    advance_fits _ i.tries i.at c.queue_rest-at.result i.follow.items _ _ _ _ c.self.invariant adv
    (let e = ap (length {A = ℕ}) c.as_slice.ensures.value in omega arith) in
    let runs : running c.queue_rest-at.new.pair.seen ≡ Some k =
    (advance_stays _ _ _ _ _ c.queue_rest-at.ensures.queued).running_same ∙ runs_at a c.args.self.now (Some k) c.self.view_is c.requires in
    fit_both (End k ∷ []) _ _ _ _ _ _ refl fit (c.end_running.ensures.both k runs)

pub returns-clause-runs : goal.returns-clause-runs
returns-clause-runs g c =
    let i = c.self.inside in let r = c.queue_rest-at.result in let k = c.args.number in
    let adv = rw c.as_slice.ensures.value at c.queue_rest-at.ensures.queued in
    let fs = i.follow.items in let p = c.queue_rest-at.new.pair in
    let q = c.end_running.new.pair in
    let high : length fs ≤ r = omega arith in
    let b : WorkerState g.row.W.Denot = state_of q i.tries (drop r fs) i.work in
    let a : WorkerState g.row.W.Denot = state_of i.pair i.tries (drop i.at fs) i.work in
    let runs : running i.pair.seen ≡ Some k = runs_at a c.args.self.now (Some k) c.self.view_is c.requires in
    let over : Both (End k ∷ []) 0 p q = c.end_running.ensures.both k ((advance_stays _ _ _ _ _ c.queue_rest-at.ensures.queued).running_same ∙ runs) in
    let e : EndsBy g.W.Work.may stays a k b =
    advance_ends g.W.Work.may stays k i.tries (drop i.at fs) (drop r fs) i.work i.work i.pair p q refl runs (drop_of_length-le fs high) adv over in
    subst (λ (z : WorkerState g.row.W.Denot). Runs g.W.Work.may c.of.result z b) c.self.view_is
    (runs_kind g.W.Work.may stays k c.of.result c.layout.result a b
    (c.layout.ensures.layout ∙ (over.layout_is ∙ advance_layout _ _ _ _ _ c.queue_rest-at.ensures.queued)) c.of.ensures e)

pub returns-then-at-len-clause-logged : goal.returns-then-at-len-clause-logged
returns-then-at-len-clause-logged g c = (invariant_of-self g c).logged

pub returns-clause-logged : goal.returns-clause-logged
returns-clause-logged g c = (invariant_of-self-2 g c).logged

pub returns-then-at-len-clause-owed : goal.returns-then-at-len-clause-owed
returns-then-at-len-clause-owed g c =
    let i = c.self.inside in let fs = i.follow.items in let r = c.queue_rest-at.result in let p = c.queue_rest-at.new.pair in
    let low : r < length fs = omega arith in let there = rw c.as_slice.ensures.value at c.queue_rest-at.ensures.contended in
    λ k is. subst (λ (z : WorkerState g.row.W.Denot). IsContended z.number (get_or (drop r fs) 0 0) z.tries p.seen) c.self.view_is
    (rw (get_or-drop r fs 0 0, add-zero) (there low))

pub returns-clause-some : goal.returns-clause-some
returns-clause-some g c = λ is. subst (IsKind c.layout.result c.args.number) is c.of.ensures

pub returns-clause-owed : goal.returns-clause-owed
returns-clause-owed g c = λ k is. absurd (subst (IsKind c.layout.result c.args.number) is c.of.ensures)
