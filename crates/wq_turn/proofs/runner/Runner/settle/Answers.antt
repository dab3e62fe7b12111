use Rattle.wq_turn.proofs.Common.{ap, subst, IsRunning, WorkerState, IsDue, SettlesOne}
use Rattle.wq_worker.specs.Rows.{Along}
use Rattle.wq_worker.proofs.Rows.{one_step, along_on}
use Rattle.wq_turn.proofs.Settled.{was_ready, was_unready, settled_unready}
use Rattle.wq_turn.proofs.Kept.{idle_owes, ready_idle, ready_not_draining}
use Rattle.wq_turn.proofs.runner.Runner.settle.Goals as goal

pub invariant_of-self : goal.invariant_of-self
invariant_of-self g c =
    let s = g.K.Station.state in let a = s c.self.inside.worker in let b = s c.ready.new.self in
    let idle : ¬ IsRunning a.seen = rw (ap s c.self.view_is) c.requires in (
      idle_owes c.self.inside.owes a.seen b.seen c.self.invariant.0 idle (ready_idle c.ready.result a b idle c.ready.ensures.outcome),
      ready_not_draining a b c.self.invariant.1 c.ready.result c.ready.ensures.outcome,
    )

pub invariant_of-self-in-None : goal.invariant_of-self-in-None
invariant_of-self-in-None g c =
    let s = g.K.Station.state in let a = s c.self.inside.worker in let b = s c.ready.new.self in
    let idle : ¬ IsRunning a.seen = rw (ap s c.self.view_is) c.requires in (
      idle_owes c.self.inside.owes a.seen b.seen c.self.invariant.0 idle (ready_idle c.ready.result a b idle c.ready.ensures.outcome),
      ready_not_draining a b c.self.invariant.1 c.ready.result c.ready.ensures.outcome,
    )

pub rest-requires-clause-waits : goal.rest-requires-clause-waits
rest-requires-clause-waits g c =
    let k = g.K.Station in let a = k.state c.self.inside.worker in
    let idle : ¬ IsRunning a.seen = rw (ap k.state c.self.view_is) c.requires in
    (was_unready k.may k.gives a (k.state c.ready.new.self) idle c.in-None.ensures.outcome).0

pub returns-in-Some-clause-settles : goal.returns-in-Some-clause-settles
returns-in-Some-clause-settles g c =
    let k = g.K.Station in let b = k.state c.ready.new.self in
    subst (λ (w : WorkerState _). IsDue k.may k.gives w c.in-Some.number b) (ap k.state c.self.view_is)
    (was_ready k.may k.gives (k.state c.self.inside.worker) b c.in-Some.number c.in-Some.ensures.outcome)

pub returns-in-None-clause-settles : goal.returns-in-None-clause-settles
returns-in-None-clause-settles g c =
    let k = g.K.Station in let d = k.state c.rest.new.self in
    subst (λ (w : WorkerState _). SettlesOne k.may k.gives c.rest.result w d) (ap k.state c.self.view_is)
    (settled_unready k.may k.gives c.rest.result (k.state c.self.inside.worker) (k.state c.ready.new.self) d c.in-None.ensures.outcome c.rest.ensures.settles)

pub returns-in-Some-clause-deals : goal.returns-in-Some-clause-deals
returns-in-Some-clause-deals g c =
    let d = g.K.Station.deals in let b = c.ready.new.self in
    subst (λ w. Along d w b) c.self.view_is (one_step d c.self.inside.worker b c.in-Some.ensures.deals)

pub returns-in-None-clause-deals : goal.returns-in-None-clause-deals
returns-in-None-clause-deals g c =
    let d = g.K.Station.deals in let a = c.self.inside.worker in let b = c.ready.new.self in
    subst (λ w. Along d w c.rest.new.self) c.self.view_is
    (along_on d a b c.rest.new.self (one_step d a b c.in-None.ensures.deals) c.rest.ensures.deals)
