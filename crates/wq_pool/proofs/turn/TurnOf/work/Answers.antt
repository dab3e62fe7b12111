use Rattle.wq_worker.specs.Rows.{Along}
use Rattle.wq_turn.specs.Steps.{Finishes, Pauses, EndsWithin}
use Rattle.wq_turn.proofs.Steps.{works_finishes, works_pauses, works_ended, works_id}
use mathlib.Core.List.{IsPrefix}
use Rattle.wq_pool.proofs.Common.{sym, refl, ap, ◌∙◌, subst, id_of, TurnState, IsSameTurn, IsHandedAt}
use Rattle.wq_pool.proofs.GoingOn.{handed_on, works_begins}
use Rattle.wq_pool.proofs.turn.TurnOf.work.Goals as goal

pub invariant_of-self : goal.invariant_of-self
invariant_of-self g c =
    let i = c.self.invariant in let k = g.K.Station in let a = k.state c.self.inside.runner in let b = k.state c.work.new.self in
    let same = works_id k.may k.gives c.args.limit c.work.result a b c.work.ensures.works in
    record {
      taken = i.taken;
      within = i.within;
      worker_is = handed_on k.state k.deals _ _ c.self.inside.runner c.work.new.self i.worker_is same
          (works_begins k.may k.gives c.args.limit c.work.result a b c.work.ensures.works) c.work.ensures.deals;
    }

pub invariant_of-result : goal.invariant_of-result
invariant_of-result g c =
    let i = c.self.invariant in let k = g.K.Station in let a = k.state c.self.inside.runner in let b = k.state c.work.new.self in
    let same = works_id k.may k.gives c.args.limit c.work.result a b c.work.ensures.works in
    record {
      taken = i.taken;
      within = i.within;
      worker_is = subst (λ w. IsHandedAt k.state k.deals c.self.inside.seat.me.0.handed c.self.inside.queue w) (sym c.into_served.ensures.same)
          (handed_on k.state k.deals _ _ c.self.inside.runner c.work.new.self i.worker_is same
          (works_begins k.may k.gives c.args.limit c.work.result a b c.work.ensures.works) c.work.ensures.deals);
    }

pub returns-then-not-work-clause-works : goal.returns-then-not-work-clause-works
returns-then-not-work-clause-works g c =
    let k = g.K.Station in let a = k.state c.self.inside.runner in let b = k.state c.work.new.self in
    subst (λ (t : TurnState _). Pauses k.may k.gives c.args.limit (k.state t.worker) b) c.self.view_is
    (works_pauses k.may k.gives c.args.limit c.work.result a b c.if-not-work.true c.work.ensures.works)

pub returns-then-not-work-clause-ended : goal.returns-then-not-work-clause-ended
returns-then-not-work-clause-ended g c =
    let k = g.K.Station in let a = k.state c.self.inside.runner in let b = k.state c.work.new.self in
    subst (λ (t : TurnState _). EndsWithin c.args.limit (k.state t.worker).seen b.seen) c.self.view_is
    (works_ended k.may k.gives c.args.limit c.work.result a b c.work.ensures.works)

pub returns-then-not-work-clause-same : goal.returns-then-not-work-clause-same
returns-then-not-work-clause-same g c =
    let i = c.self.inside in let k = g.K.Station in
    let new : TurnState _ = record { slots = i.seat.table_id; queue = i.queue; worker = c.work.new.self } in
    subst (λ (t : TurnState _). IsSameTurn k.state t new) c.self.view_is record {
      slots_is = refl;
      queue_is = refl;
      worker_is = works_id k.may k.gives c.args.limit c.work.result (k.state i.runner) (k.state c.work.new.self) c.work.ensures.works;
      begins = works_begins k.may k.gives c.args.limit c.work.result (k.state i.runner) (k.state c.work.new.self) c.work.ensures.works;
    }

pub returns-clause-works : goal.returns-clause-works
returns-clause-works g c =
    let k = g.K.Station in let a = k.state c.self.inside.runner in let b = k.state c.work.new.self in
    let done = works_finishes k.may k.gives c.args.limit c.work.result a b c.if-not-work.false c.work.ensures.works in
    subst (λ (t : TurnState _). Finishes k.may k.gives c.args.limit (k.state t.worker) (k.state c.into_served.result)) c.self.view_is
    (subst (λ w. Finishes k.may k.gives c.args.limit a (k.state w)) (sym c.into_served.ensures.same) done.0)

pub returns-clause-ended : goal.returns-clause-ended
returns-clause-ended g c =
    let k = g.K.Station in let a = k.state c.self.inside.runner in let b = k.state c.work.new.self in
    let within = works_ended k.may k.gives c.args.limit c.work.result a b c.work.ensures.works in
    subst (λ (t : TurnState _). EndsWithin c.args.limit (k.state t.worker).seen (k.state c.into_served.result).seen) c.self.view_is
    (subst (λ w. EndsWithin c.args.limit a.seen (k.state w).seen) (sym c.into_served.ensures.same) within)

pub returns-clause-same : goal.returns-clause-same
returns-clause-same g c =
    let i = c.self.inside in let k = g.K.Station in
    let new : TurnState _ = record { slots = i.seat.table_id; queue = i.queue; worker = c.into_served.result } in
    subst (λ (t : TurnState _). IsSameTurn k.state t new) c.self.view_is record {
      slots_is = refl;
      queue_is = refl;
      worker_is = ap (id_of k.state) c.into_served.ensures.same
          ∙ works_id k.may k.gives c.args.limit c.work.result (k.state i.runner) (k.state c.work.new.self) c.work.ensures.works;
      begins = subst (λ w. IsPrefix (k.state i.runner).seen (k.state w).seen) (sym c.into_served.ensures.same)
          (works_begins k.may k.gives c.args.limit c.work.result (k.state i.runner) (k.state c.work.new.self) c.work.ensures.works);
    }

pub returns-then-not-work-clause-deals : goal.returns-then-not-work-clause-deals
returns-then-not-work-clause-deals g c =
    subst (λ (t : TurnState _). Along g.K.Station.deals t.worker c.work.new.self) c.self.view_is c.work.ensures.deals

pub returns-clause-deals : goal.returns-clause-deals
returns-clause-deals g c =
    let d = g.K.Station.deals in
    subst (λ (t : TurnState _). Along d t.worker c.into_served.result) c.self.view_is
    (subst (λ w. Along d c.self.inside.runner w) (sym c.into_served.ensures.same) c.work.ensures.deals)
