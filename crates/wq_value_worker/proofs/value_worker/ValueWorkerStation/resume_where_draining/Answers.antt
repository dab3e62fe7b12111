use Rattle.wq_value_worker.proofs.Common.{rules, [], ◌∷◌, sym, refl, subst, Resume, IsDraining, HasRunOut, IsLegal, ValueWorkerState, Resumes, stays_closed, reopens}
use Rattle.wq_worker.specs.Works.{a_resume}
use Rattle.wq_value_worker.specs.Deals.{DealsInStep, keeps}
use Rattle.wq_value_worker.proofs.Deals.{deals_still}
use Rattle.wq_worker.proofs.Draining.{none_left, next_from_empty}
use Rattle.wq_calls.proofs.PhaseKept.{closed_else}
use Rattle.wq_value_worker.proofs.ValueState.{value_state_of, value_fit_owner, value_moves_owner}
use Rattle.wq_value_worker.proofs.value_worker.ValueWorkerStation.resume_where_draining.Goals as goal

pub resume-requires : goal.resume-requires
resume-requires g c =
    let o = c.self.inside.pair.known in
    let out : HasRunOut o.seen = subst (λ (z : ValueWorkerState g.row.V.Denot g.row.W.Denot). HasRunOut z.worker.seen) (sym c.self.view_is) c.requires in
    let none = none_left o.layout o.seen c.self.invariant.legal out in
    record { draining = (c.is_draining.ensures.draining).0 (search rules); empty = none.0; idle = none.1 }

pub invariant_of-self : goal.invariant_of-self
invariant_of-self g c =
    let e = c.resume.ensures in
    value_fit_owner (Resume ∷ []) 0 0 c.self.inside.pair c.resume.new.self e.seen e.others _ _ refl c.self.invariant
    (record { learnt = e.learnt; handed_same = e.handed })

pub returns-then-is_draining : goal.returns-then-is_draining
returns-then-is_draining g c =
    let i = c.self.inside in let e = c.resume.ensures in let q = c.resume.new.self in
    let v = g.W.ValueWork in
    let is : IsDraining i.pair.known.seen = c.is_draining.ensures.draining.0 (search rules) in
    let w : ValueWorkerState g.row.V.Denot g.row.W.Denot = value_state_of q i.tries i.left.pairs i.work in
    record {
      resumes = subst (λ (z : ValueWorkerState g.row.V.Denot g.row.W.Denot). Resumes z.worker w.worker) c.self.view_is
          (reopens is (value_moves_owner (Resume ∷ []) 0 0 i.pair q e.seen e.others i.tries i.left.pairs i.work) refl refl);
      none = (e.idle, next_from_empty q.known.seen e.empty);
      deals = subst (λ (z : ValueWorkerState g.row.V.Denot g.row.W.Denot). DealsInStep v.given v.may v.takes z w) c.self.view_is
          (keeps (Resume ∷ []) a_resume (value_moves_owner (Resume ∷ []) 0 0 i.pair q e.seen e.others i.tries i.left.pairs i.work) (refl, refl) refl
          e.learnt);
    }

pub returns-else-is_draining : goal.returns-else-is_draining
returns-else-is_draining g c =
    let o = c.self.inside.pair.known in
    let not : ¬ IsDraining o.seen = λ draining. absurd (cc (c.is_draining.ensures.draining.1 draining, c.if-is_draining.false)) in
    let here : ¬ IsDraining c.args.self.now.worker.seen =
    subst (λ (z : ValueWorkerState g.row.V.Denot g.row.W.Denot). ¬ IsDraining z.worker.seen) c.self.view_is not in
    let legal = subst (λ (z : ValueWorkerState g.row.V.Denot g.row.W.Denot). IsLegal z.worker.layout z.worker.seen) c.self.view_is c.self.invariant.legal in
    let left = none_left c.args.self.now.worker.layout c.args.self.now.worker.seen legal c.requires in
    let i = c.self.inside in let v = g.W.ValueWork in
    let a : ValueWorkerState g.row.V.Denot g.row.W.Denot = value_state_of i.pair i.tries i.left.pairs i.work in
    record {
      resumes = stays_closed (closed_else c.args.self.now.worker.seen c.requires.0 here) refl;
      none = (left.1, next_from_empty c.args.self.now.worker.seen left.0);
      deals = subst (λ (z : ValueWorkerState g.row.V.Denot g.row.W.Denot). DealsInStep v.given v.may v.takes z z) c.self.view_is
          (deals_still v.given v.may v.takes a c.self.invariant.legal c.self.invariant.whole);
    }
