use Rattle.wq_worker.specs.Rows.{Along}
use Rattle.wq_turn.specs.Drained.{ClosesAndWorks}
use Rattle.wq_turn.specs.Steps.{EndsJust}
use Rattle.wq_pool.proofs.Common.{refl, subst, TurnState, IsSameTurn}
use Rattle.wq_pool.proofs.GoingOn.{handed_on, drain_begins}
use Rattle.wq_pool.proofs.turn.TurnOf.drain.Goals as goal

pub invariant_of-self : goal.invariant_of-self
invariant_of-self g c =
    let i = c.self.invariant in let k = g.K.Station in let a = k.state c.self.inside.runner in let b = k.state c.drain.new.self in
    record {
      taken = i.taken;
      within = i.within;
      worker_is = handed_on k.state k.deals _ _ c.self.inside.runner c.drain.new.self i.worker_is c.drain.ensures.same
          (drain_begins k.may k.gives c.args.limit a b c.drain.ensures.works) c.drain.ensures.deals;
    }

pub returns-clause-same : goal.returns-clause-same
returns-clause-same g c =
    let i = c.self.inside in let k = g.K.Station in
    let new : TurnState _ = record { slots = i.seat.table_id; queue = i.queue; worker = c.drain.new.self } in
    subst (λ (t : TurnState _). IsSameTurn k.state t new) c.self.view_is record {
      slots_is = refl;
      queue_is = refl;
      worker_is = c.drain.ensures.same;
      begins = drain_begins k.may k.gives c.args.limit (k.state i.runner) (k.state c.drain.new.self) c.drain.ensures.works;
    }

pub returns-clause-works : goal.returns-clause-works
returns-clause-works g c =
    let k = g.K.Station in
    subst (λ (t : TurnState _). ClosesAndWorks k.may k.gives c.args.limit (k.state t.worker) (k.state c.drain.new.self)) c.self.view_is
    c.drain.ensures.works

pub returns-clause-deals : goal.returns-clause-deals
returns-clause-deals g c =
    subst (λ (t : TurnState _). Along g.K.Station.deals t.worker c.drain.new.self) c.self.view_is c.drain.ensures.deals

pub returns-clause-executed : goal.returns-clause-executed
returns-clause-executed g c =
    let k = g.K.Station in
    λ some. subst (λ (t : TurnState _). EndsJust c.args.limit (k.state t.worker).seen (k.state c.drain.new.self).seen) c.self.view_is
    (c.drain.ensures.executed some)
