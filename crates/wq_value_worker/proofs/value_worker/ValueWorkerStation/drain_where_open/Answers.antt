use Rattle.wq_value_worker.proofs.Common.{[], ◌∷◌, sym, refl, ◌∙◌, subst, Drain, IsShut, open_from_shut, ValueWorkerState, Shuts, drains}
use Rattle.wq_worker.specs.Works.{a_drain}
use Rattle.wq_value_worker.specs.Deals.{DealsInStep, keeps}
use Rattle.wq_value_worker.proofs.Deals.{deals_still}
use Rattle.wq_value_worker.proofs.ValueState.{value_state_of, value_fit_owner, value_moves_owner}
use Rattle.wq_value_worker.proofs.value_worker.ValueWorkerStation.drain_where_open.Goals as goal

pub invariant_of-self : goal.invariant_of-self
invariant_of-self g c =
    let e = c.drain.ensures in
    value_fit_owner (Drain ∷ []) 0 0 c.self.inside.pair c.drain.new.self e.seen e.others _ _ refl c.self.invariant
    (record { learnt = e.learnt; handed_same = e.handed })

pub returns-clause-shuts : goal.returns-clause-shuts
returns-clause-shuts g c =
    let i = c.self.inside in let e = c.drain.ensures in let q = c.drain.new.self in
    let opens : ¬ IsShut i.pair.known.seen = open_from_shut i.pair.known.seen (sym c.is_shut.ensures.shut ∙ c.if-is_shut.false) in
    let w : ValueWorkerState g.row.V.Denot g.row.W.Denot = value_state_of q i.tries i.left.pairs i.work in
    subst (λ (z : ValueWorkerState g.row.V.Denot g.row.W.Denot). Shuts z.worker w.worker) c.self.view_is
    (drains opens (value_moves_owner (Drain ∷ []) 0 0 i.pair q e.seen e.others i.tries i.left.pairs i.work) refl refl)

pub returns-clause-deals : goal.returns-clause-deals
returns-clause-deals g c =
    let i = c.self.inside in let e = c.drain.ensures in let q = c.drain.new.self in let v = g.W.ValueWork in
    let w : ValueWorkerState g.row.V.Denot g.row.W.Denot = value_state_of q i.tries i.left.pairs i.work in
    subst (λ (z : ValueWorkerState g.row.V.Denot g.row.W.Denot). DealsInStep v.given v.may v.takes z w) c.self.view_is
    (keeps (Drain ∷ []) a_drain (value_moves_owner (Drain ∷ []) 0 0 i.pair q e.seen e.others i.tries i.left.pairs i.work) (refl, refl) refl e.learnt)

pub returns-then-is_shut-clause-deals : goal.returns-then-is_shut-clause-deals
returns-then-is_shut-clause-deals g c =
    let i = c.self.inside in let v = g.W.ValueWork in
    let a : ValueWorkerState g.row.V.Denot g.row.W.Denot = value_state_of i.pair i.tries i.left.pairs i.work in
    subst (λ (z : ValueWorkerState g.row.V.Denot g.row.W.Denot). DealsInStep v.given v.may v.takes z z) c.self.view_is
    (deals_still v.given v.may v.takes a c.self.invariant.legal c.self.invariant.whole)
