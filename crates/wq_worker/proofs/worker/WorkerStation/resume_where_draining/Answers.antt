use Rattle.wq_worker.proofs.Common.{rules, [], ◌∷◌, sym, refl, ap, subst, drop, Resume, IsDraining, HasRunOut, IsLegal, KnownPair, Both, WorkerState, Resumes}
use Rattle.wq_worker.proofs.Common.{stays_closed, reopens}
use Rattle.wq_worker.specs.Step.{stays}
use Rattle.wq_worker.specs.Works.{a_resume, WorksInStep, keeps}
use Rattle.wq_worker.proofs.Draining.{none_left, next_from_empty}
use Rattle.wq_worker.proofs.Pair.{by_owner}
use Rattle.wq_calls.proofs.PhaseKept.{closed_else}
use Rattle.wq_worker.proofs.State.{fit_both}
use Rattle.wq_worker.proofs.Step.{state_of, moves_by}
use Rattle.wq_worker.proofs.Works.{works_still}
use Rattle.wq_worker.proofs.worker.WorkerStation.resume_where_draining.Goals as goal

pub resume-requires : goal.resume-requires
resume-requires g c =
    let o : KnownPair = c.self.inside.pair in
    let out : HasRunOut o.seen = rw (ap (λ (w : WorkerState _). w.seen) c.self.view_is) c.requires in
    let none = none_left o.layout o.seen c.self.invariant.legal out in
    record { draining = (c.is_draining.ensures.draining).0 (search rules); empty = none.0; idle = none.1 }

pub invariant_of-self : goal.invariant_of-self
invariant_of-self g c =
    let i = c.self.inside in let e = c.resume.ensures in let o : KnownPair = i.pair in
    let q : KnownPair = c.resume.new.self in
    fit_both (Resume ∷ []) _ _ _ _ o q refl c.self.invariant (by_owner (Resume ∷ []) 0 0 o q e.seen e.others)

pub returns-then-is_draining : goal.returns-then-is_draining
returns-then-is_draining g c =
    let i = c.self.inside in let e = c.resume.ensures in let o : KnownPair = i.pair in
    let q : KnownPair = c.resume.new.self in let left = drop i.at i.follow.items in
    let b : Both (Resume ∷ []) 0 o q = by_owner (Resume ∷ []) 0 0 o q e.seen e.others in
    let w : WorkerState g.row.W.Denot = state_of q i.tries left i.work in
    let is : IsDraining o.seen = c.is_draining.ensures.draining.0 (search rules) in
    record {
      resumes = subst (λ (z : WorkerState g.row.W.Denot). Resumes z w) c.self.view_is
          (reopens is (moves_by (Resume ∷ []) 0 i.tries left left i.work i.work o q b) refl refl);
      none = (e.idle, next_from_empty q.seen e.empty);
      deals = subst (λ (z : WorkerState g.row.W.Denot). WorksInStep g.W.Work.may z w) c.self.view_is
          (keeps (Resume ∷ []) a_resume (moves_by (Resume ∷ []) 0 i.tries left left i.work i.work o q b) (refl, refl));
    }

pub returns-else-is_draining : goal.returns-else-is_draining
returns-else-is_draining g c =
    let o : KnownPair = c.self.inside.pair in
    let legal = subst (λ (w : WorkerState g.row.W.Denot). IsLegal w.layout w.seen) c.self.view_is c.self.invariant.legal in
    let not : ¬ IsDraining o.seen = λ draining. absurd (cc (c.is_draining.ensures.draining.1 draining, c.if-is_draining.false)) in
    let here : ¬ IsDraining c.args.self.now.seen = rw (sym (ap (λ (w : WorkerState _). w.seen) c.self.view_is)) not in
    let left = none_left c.args.self.now.layout c.args.self.now.seen legal c.requires in
    record {
      resumes = stays_closed (closed_else c.args.self.now.seen c.requires.0 here) refl;
      none = (left.1, next_from_empty c.args.self.now.seen left.0);
      deals = works_still g.W.Work.may stays c.args.self.now legal;
    }
