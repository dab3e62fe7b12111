use Rattle.wq_worker.proofs.Common.{subst, drop, rest_events, WorkerState, Moves}
use Rattle.wq_worker.proofs.Resting.{begun_rest}
use Rattle.wq_worker.proofs.State.{fit_both}
use Rattle.wq_worker.proofs.Step.{state_of, moves_by}
use Rattle.wq_worker.proofs.worker.Worker.rest.Goals as goal

pub invariant_of-self : goal.invariant_of-self
invariant_of-self g c =
    let i = c.self.inside in let o = i.pair in let p = c.rest.new.pair in
    fit_both (rest_events c.rest.result) (g.W.Work.log i.work) i.tries i.at i.follow.items o p (begun_rest c.rest.result) c.self.invariant
    c.rest.ensures.both

pub returns-clause-events : goal.returns-clause-events
returns-clause-events g c =
    let i = c.self.inside in let o = i.pair in let p = c.rest.new.pair in
    let xs = rest_events c.rest.result in
    let left = drop i.at i.follow.items in
    let w : WorkerState g.row.W.Denot = state_of p i.tries left i.work in
    subst (λ (z : WorkerState g.row.W.Denot). Moves xs 0 z w) c.self.view_is
    (moves_by xs 0 i.tries left left i.work i.work o p c.rest.ensures.both)
