use Rattle.wq_turn.proofs.Common.{None, sym, ap, ◌∙◌, subst, IsRunning, WorkerState, HasNoneLeft, NothingWaits, SettlesOne}
use Rattle.wq_worker.specs.Rows.{Along, here, onward}
use Rattle.wq_worker.proofs.Rows.{one_step}
use Rattle.wq_turn.proofs.Settled.{settled_closed, settled_rested, settled_refused}
use Rattle.wq_words.proofs.Closed.{open_from_closed}
use Rattle.wq_turn.proofs.Kept.{idle_owes, ready_idle, ready_not_draining, rest_not_draining}
use Rattle.wq_turn.proofs.runner.Runner.rest.Goals as goal

pub rest-requires-clause-open : goal.rest-requires-clause-open
rest-requires-clause-open g c shut =
    let a = g.K.Station.state c.self.inside.worker in
    c.self.invariant.1 (shut, open_from_closed a.seen (sym c.is_closed.ensures.closed ∙ c.if-is_closed.false))

pub invariant_of-self-2 : goal.invariant_of-self-2
invariant_of-self-2 g c =
    let s = g.K.Station.state in let a = s c.self.inside.worker in let b = s c.rest.new.self in let d = s c.ready.new.self in
    let idle : ¬ IsRunning a.seen = rw (ap s c.self.view_is) c.requires.none.0 in (
      idle_owes c.self.inside.owes a.seen d.seen c.self.invariant.0 idle (ready_idle c.ready.result b d c.rest.ensures.none.0 c.ready.ensures.outcome),
      ready_not_draining b d (rest_not_draining a b c.self.invariant.1 c.rest.result c.rest.ensures.events) c.ready.result c.ready.ensures.outcome,
    )

pub returns-then-is_closed-clause-settles : goal.returns-then-is_closed-clause-settles
returns-then-is_closed-clause-settles g c =
    let k = g.K.Station in let a = k.state c.self.inside.worker in let e = c.is_closed.ensures in
    let none : HasNoneLeft a.seen = rw (ap k.state c.self.view_is) c.requires.none in
    subst (λ (w : WorkerState _). SettlesOne k.may k.gives None w w) (ap k.state c.self.view_is)
    (settled_closed k.may k.gives a e.legal (sym e.closed ∙ c.if-is_closed.true) none)

pub returns-then-rest-clause-settles : goal.returns-then-rest-clause-settles
returns-then-rest-clause-settles g c =
    let k = g.K.Station in let a = k.state c.self.inside.worker in let b = k.state c.rest.new.self in let e = c.rest.ensures in
    subst (λ (w : WorkerState _). SettlesOne k.may k.gives None w b) (ap k.state c.self.view_is)
    (settled_rested k.may k.gives c.rest.result a b c.if-rest.true e.work e.events e.none)

pub returns-clause-settles : goal.returns-clause-settles
returns-clause-settles g c =
    let k = g.K.Station in let a = k.state c.self.inside.worker in let b = k.state c.rest.new.self in let d = k.state c.ready.new.self in
    let e = c.rest.ensures in
    let waits : NothingWaits a.seen = rw (ap k.state c.self.view_is) c.requires.waits in
    subst (λ (w : WorkerState _). SettlesOne k.may k.gives c.ready.result w d) (ap k.state c.self.view_is)
    (settled_refused k.may k.gives c.rest.result c.ready.result a b d c.if-rest.false waits e.work e.events e.open e.none (e.refused c.if-rest.false)
    c.ready.ensures.outcome)

pub returns-then-is_closed-clause-deals : goal.returns-then-is_closed-clause-deals
returns-then-is_closed-clause-deals g c = here c.args.self.now

pub returns-then-rest-clause-deals : goal.returns-then-rest-clause-deals
returns-then-rest-clause-deals g c =
    let d = g.K.Station.deals in let b = c.rest.new.self in
    subst (λ w. Along d w b) c.self.view_is (one_step d c.self.inside.worker b c.rest.ensures.deals)

pub returns-clause-deals : goal.returns-clause-deals
returns-clause-deals g c =
    let d = g.K.Station.deals in let a = c.self.inside.worker in let b = c.rest.new.self in
    subst (λ w. Along d w c.ready.new.self) c.self.view_is (onward a b c.ready.new.self (one_step d a b c.rest.ensures.deals) c.ready.ensures.deals)
