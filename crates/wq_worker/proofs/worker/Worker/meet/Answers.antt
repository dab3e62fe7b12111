use Rattle.wq_worker.proofs.Common.{[], refl, ap, ◌∙◌, subst, drop, IsShut, IsClosed, IsRunning, KnownPair, pair_owner, Both, WorkerState, Moves}
use Rattle.wq_worker.specs.Resting.{HasNoneLeft}
use Rattle.wq_worker.proofs.State.{fit_both}
use Rattle.wq_worker.proofs.Step.{state_of, moves_by}
use Rattle.wq_worker.proofs.Pair.{by_owner}
use Rattle.wq_calls.proofs.PhaseKept.{open_still, unclosed_still, phase_grown}
use Rattle.wq_calls.proofs.Owned.{idle_still}
use Rattle.wq_worker.proofs.Resting.{none_left_still}
use Rattle.wq_worker.proofs.worker.Worker.meet.Goals as goal

pub invariant_of-self : goal.invariant_of-self
invariant_of-self g c =
    let i = c.self.inside in let e = c.meet.ensures in let o : KnownPair = i.pair in
    let q : KnownPair = c.meet.new.self in
    fit_both [] (g.W.Work.log i.work) i.tries i.at i.follow.items o q refl c.self.invariant (by_owner [] 0 0 o q e.owner e.sender)

pub returns-clause-worker : goal.returns-clause-worker
returns-clause-worker g c =
    let i = c.self.inside in let e = c.meet.ensures in let o : KnownPair = i.pair in
    let q : KnownPair = c.meet.new.self in let left = drop i.at i.follow.items in
    let b : Both [] 0 o q = by_owner [] 0 0 o q e.owner e.sender in
    let w : WorkerState g.row.W.Denot = state_of q i.tries left i.work in
    subst (λ (z : WorkerState g.row.W.Denot). Moves [] 0 z w) c.self.view_is (moves_by [] 0 i.tries left left i.work i.work o q b)

pub returns-clause-open : goal.returns-clause-open
returns-clause-open g c =
    let o = c.self.inside.pair.seen in let q = c.meet.new.self.seen in
    subst (λ (z : WorkerState g.row.W.Denot). ¬ IsShut z.seen → ¬ IsShut q) c.self.view_is
    (open_still o q (phase_grown [] 0 o q c.meet.ensures.owner.grows refl))

pub returns-clause-unclosed : goal.returns-clause-unclosed
returns-clause-unclosed g c =
    let o = c.self.inside.pair.seen in let q = c.meet.new.self.seen in
    subst (λ (z : WorkerState g.row.W.Denot). ¬ IsClosed z.seen → ¬ IsClosed q) c.self.view_is
    (unclosed_still o q (phase_grown [] 0 o q c.meet.ensures.owner.grows refl))

pub returns-clause-layout : goal.returns-clause-layout
returns-clause-layout g c = c.meet.ensures.layout ∙ ap (λ (z : WorkerState g.row.W.Denot). z.layout) c.self.view_is

pub returns-clause-idle : goal.returns-clause-idle
returns-clause-idle g c =
    let o = c.self.inside.pair.seen in let q = c.meet.new.self.seen in
    subst (λ (z : WorkerState g.row.W.Denot). ¬ IsRunning z.seen → ¬ IsRunning q) c.self.view_is (idle_still 0 o q c.meet.ensures.owner.grows)

pub returns-clause-none : goal.returns-clause-none
returns-clause-none g c =
    let o = c.self.inside.pair in let q = c.meet.new.self in let e = c.meet.ensures.owner in
    subst (λ (z : WorkerState g.row.W.Denot). HasNoneLeft z.seen → HasNoneLeft q.seen) c.self.view_is
    (none_left_still 0 (pair_owner o) (pair_owner q) refl e e.grows)
