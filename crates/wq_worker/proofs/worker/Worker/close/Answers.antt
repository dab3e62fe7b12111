use Rattle.wq_worker.proofs.Common.{[], ◌∷◌, refl, subst, drop, IsRunning, Close, KnownPair, Both, WorkerState, Moves}
use Rattle.wq_worker.proofs.Pair.{by_owner}
use Rattle.wq_worker.proofs.State.{fit_both}
use Rattle.wq_worker.proofs.Step.{state_of, moves_by}
use Rattle.wq_worker.proofs.worker.Worker.close.Goals as goal

pub invariant_of-self : goal.invariant_of-self
invariant_of-self g c =
    let i = c.self.inside in let e = c.close.ensures in let o : KnownPair = i.pair in
    let q : KnownPair = c.close.new.self in
    fit_both (Close ∷ []) _ _ _ _ o q refl c.self.invariant (by_owner (Close ∷ []) 0 0 o q e.seen e.others)

pub returns-clause-events : goal.returns-clause-events
returns-clause-events g c =
    let i = c.self.inside in let e = c.close.ensures in let o : KnownPair = i.pair in
    let q : KnownPair = c.close.new.self in
    let b : Both (Close ∷ []) 0 o q = by_owner (Close ∷ []) 0 0 o q e.seen e.others in
    let w : WorkerState g.row.W.Denot = state_of q i.tries (drop i.at i.follow.items) i.work in
    subst (λ (z : WorkerState g.row.W.Denot). Moves (Close ∷ []) 0 z w) c.self.view_is
    (moves_by (Close ∷ []) 0 i.tries (drop i.at i.follow.items) (drop i.at i.follow.items) i.work i.work o q b)

pub returns-clause-idle : goal.returns-clause-idle
returns-clause-idle g c =
    subst (λ (z : WorkerState g.row.W.Denot). ¬ IsRunning z.seen → ¬ IsRunning c.close.new.self.seen) c.self.view_is c.close.ensures.idle
