use Rattle.std.proofs.Common.{rules}
use Rattle.wq_words.proofs.Closed.{open_from_closed}
use Rattle.wq_worker.specs.Rows.{Closes, closes, was_closed, here}
use Rattle.wq_worker.proofs.Rows.{one_step}
use Rattle.wq_turn.proofs.Common.{false, sym, refl, ap, subst, IsRunning, IsClosed_from_closed, WorkerState}
use Rattle.wq_turn.proofs.Draining.{closed_owes, close_closes}
use Rattle.wq_turn.proofs.Kept.{closed_not_draining}
use Rattle.wq_turn.proofs.runner.Runner.close.Goals as goal

pub invariant_of-self : goal.invariant_of-self
invariant_of-self g c =
    let s = g.K.Station.state in let a = s c.self.inside.worker in let b = s c.close.new.self in (
      closed_owes c.self.inside.owes a b c.close.ensures.events c.self.invariant.0,
      closed_not_draining a b c.self.invariant.1 c.close.ensures.events,
    )

pub returns-then-not-is_closed-clause-closes : goal.returns-then-not-is_closed-clause-closes
returns-then-not-is_closed-clause-closes g c =
    let s = g.K.Station.state in let b = s c.close.new.self in
    subst (λ (w : WorkerState _). Closes w b) (ap s c.self.view_is)
    (closes (open_from_closed (s c.self.inside.worker).seen (search rules)) c.close.ensures.events c.close.ensures.work.0 c.close.ensures.work.1)

pub returns-then-not-is_closed-clause-deals : goal.returns-then-not-is_closed-clause-deals
returns-then-not-is_closed-clause-deals g c =
    one_step g.K.Station.deals c.args.self.now c.close.new.self (rw (sym c.self.view_is) c.close.ensures.deals)

pub returns-then-not-is_closed-clause-closed : goal.returns-then-not-is_closed-clause-closed
returns-then-not-is_closed-clause-closed g c =
    let s = g.K.Station.state in close_closes (s c.self.inside.worker) (s c.close.new.self) c.close.ensures.events

pub returns-then-not-is_closed-clause-idle : goal.returns-then-not-is_closed-clause-idle
returns-then-not-is_closed-clause-idle g c =
    let s = g.K.Station.state in let b = s c.close.new.self in
    subst (λ (w : WorkerState _). ¬ IsRunning w.seen → ¬ IsRunning b.seen) (ap s c.self.view_is)
    (closed_owes false (s c.self.inside.worker) b c.close.ensures.events)

pub returns-else-not-is_closed-clause-closes : goal.returns-else-not-is_closed-clause-closes
returns-else-not-is_closed-clause-closes g c =
    was_closed (IsClosed_from_closed (g.K.Station.state c.args.self.now).seen (search rules)) refl

pub returns-else-not-is_closed-clause-deals : goal.returns-else-not-is_closed-clause-deals
returns-else-not-is_closed-clause-deals g c = here c.args.self.now
