use Rattle.wq_worker.proofs.Common.{rules, ◌≡◌, None, MatchOption, refl, subst, drop, IsRunning, running, runs_none, taking}
use Rattle.wq_worker.proofs.Common.{Both, IsShut, IsClosed, IsLegal, IsReady, IsUnready, WorkerState}
use Rattle.wq_worker.proofs.Owned.{quiet_stays, owner_of_both}
use Rattle.wq_worker.specs.State.{IsSameWorker}
use Rattle.wq_worker.proofs.Rows.{worker_still, moves_same}
use Rattle.wq_worker.proofs.State.{fit_both, quiet_taking}
use Rattle.wq_worker.proofs.Step.{state_of, moves_by}
use Rattle.wq_worker.proofs.Resting.{ready_told}
use Rattle.wq_calls.proofs.PhaseKept.{open_still, unclosed_still}
use Rattle.wq_worker.proofs.worker.Worker.ready.Goals as goal

pub invariant_of-self : goal.invariant_of-self
invariant_of-self g c =
    let i = c.self.inside in let o = i.pair in let p = c.take_next.new.pair in
    fit_both (taking o.seen) (g.W.Work.log i.work) i.tries i.at i.follow.items o p (quiet_taking o.seen).begun_none c.self.invariant c.take_next.ensures.both

pub returns-clause-outcome : goal.returns-clause-outcome
returns-clause-outcome g c =
    let i = c.self.inside in let o = i.pair in let p = c.take_next.new.pair in
    let b : Both (taking o.seen) 0 o p = c.take_next.ensures.both in let left = drop i.at i.follow.items in
    let s = quiet_stays (taking o.seen) o.seen p.seen (quiet_taking o.seen) (owner_of_both i.pair.number (taking o.seen) 0 o.seen p.seen b.adds) in
    let none : running o.seen ≡ None = search rules in
    let idle : ¬ IsRunning p.seen = rw (s.begun_same, s.ended_same) (runs_none o.seen none) in
    let a : WorkerState g.row.W.Denot = state_of o i.tries left i.work in
    let w : WorkerState g.row.W.Denot = state_of p i.tries left i.work in
    subst (λ (z : WorkerState g.row.W.Denot). MatchOption c.take_next.result (IsUnready z w) (λ k. IsReady z k w)) c.self.view_is
    (ready_told a w c.take_next.result c.take_next.ensures.next c.take_next.ensures.nothing idle
    (moves_by (taking o.seen) 0 i.tries left left i.work i.work o p b) (refl, refl))

pub returns-clause-open : goal.returns-clause-open
returns-clause-open g c =
    let o = c.self.inside.pair in let p = c.take_next.new.pair in let b = c.take_next.ensures.both in
    let s = quiet_stays (taking o.seen) o.seen p.seen (quiet_taking o.seen) (owner_of_both o.number (taking o.seen) 0 o.seen p.seen b.adds) in
    subst (λ (z : WorkerState g.row.W.Denot). ¬ IsShut z.seen → ¬ IsShut p.seen) c.self.view_is (open_still o.seen p.seen s.phase)

pub returns-clause-unclosed : goal.returns-clause-unclosed
returns-clause-unclosed g c =
    let o = c.self.inside.pair in let p = c.take_next.new.pair in let b = c.take_next.ensures.both in
    let s = quiet_stays (taking o.seen) o.seen p.seen (quiet_taking o.seen) (owner_of_both o.number (taking o.seen) 0 o.seen p.seen b.adds) in
    subst (λ (z : WorkerState g.row.W.Denot). ¬ IsClosed z.seen → ¬ IsClosed p.seen) c.self.view_is (unclosed_still o.seen p.seen s.phase)

pub returns-clause-same : goal.returns-clause-same
returns-clause-same g c =
    let i = c.self.inside in let o = i.pair in let p = c.take_next.new.pair in let left = drop i.at i.follow.items in
    let a : WorkerState g.row.W.Denot = state_of o i.tries left i.work in
    let w : WorkerState g.row.W.Denot = state_of p i.tries left i.work in
    subst (λ (z : WorkerState g.row.W.Denot). IsSameWorker z w) c.self.view_is
    (moves_same (taking o.seen) 0 a w (moves_by (taking o.seen) 0 i.tries left left i.work i.work o p c.take_next.ensures.both))

pub returns-clause-legal : goal.returns-clause-legal
returns-clause-legal g c = c.take_next.ensures.both.legal

pub returns-then-is_some-clause-same : goal.returns-then-is_some-clause-same
returns-then-is_some-clause-same g c = worker_still c.args.self.now

pub returns-then-is_some-clause-legal : goal.returns-then-is_some-clause-legal
returns-then-is_some-clause-legal g c =
    subst (λ (z : WorkerState g.row.W.Denot). IsLegal z.layout z.seen) c.self.view_is c.self.invariant.legal
