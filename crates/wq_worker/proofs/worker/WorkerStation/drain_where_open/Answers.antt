use Rattle.wq_worker.proofs.Common.{[], ◌∷◌, sym, refl, ◌∙◌, subst, drop, Drain, IsShut, IsShut_from_shut, open_from_shut, KnownPair, Both}
use Rattle.wq_worker.proofs.Common.{WorkerState, Shuts, drains}
use Rattle.wq_worker.specs.Rows.{was_shut}
use Rattle.wq_worker.specs.Step.{stays}
use Rattle.wq_worker.specs.Works.{a_drain, WorksInStep, keeps}
use Rattle.wq_worker.proofs.Works.{works_still}
use Rattle.wq_worker.proofs.Pair.{by_owner}
use Rattle.wq_worker.proofs.State.{fit_both}
use Rattle.wq_worker.proofs.Step.{state_of, moves_by}
use Rattle.wq_worker.proofs.worker.WorkerStation.drain_where_open.Goals as goal

pub drain-requires : goal.drain-requires
drain-requires g c = record { «open» = open_from_shut c.self.inside.pair.seen (sym c.is_shut.ensures.shut ∙ c.if-is_shut.false) }

pub invariant_of-self : goal.invariant_of-self
invariant_of-self g c =
    let i = c.self.inside in let e = c.drain.ensures in let o : KnownPair = i.pair in
    let q : KnownPair = c.drain.new.self in
    fit_both (Drain ∷ []) _ _ _ _ o q refl c.self.invariant (by_owner (Drain ∷ []) 0 0 o q e.seen e.others)

pub returns-then-is_shut : goal.returns-then-is_shut
returns-then-is_shut g c =
    let o : KnownPair = c.self.inside.pair in
    let is : IsShut o.seen = IsShut_from_shut o.seen (sym c.is_shut.ensures.shut ∙ c.if-is_shut.true) in
    let now : IsShut c.args.self.now.seen = subst (λ (w : WorkerState g.row.W.Denot). IsShut w.seen) c.self.view_is is in
    let i = c.self.inside in let a : WorkerState g.row.W.Denot = state_of i.pair i.tries (drop i.at i.follow.items) i.work in
    record {
      shuts = was_shut now refl;
      shut = now;
      deals = subst (λ (z : WorkerState g.row.W.Denot). WorksInStep g.W.Work.may z z) c.self.view_is
          (works_still g.W.Work.may stays a c.self.invariant.legal);
    }

pub returns : goal.returns
returns g c =
    let i = c.self.inside in let e = c.drain.ensures in let o : KnownPair = i.pair in
    let q : KnownPair = c.drain.new.self in let left = drop i.at i.follow.items in
    let b : Both (Drain ∷ []) 0 o q = by_owner (Drain ∷ []) 0 0 o q e.seen e.others in
    let w : WorkerState g.row.W.Denot = state_of q i.tries left i.work in
    let opens : ¬ IsShut o.seen = open_from_shut o.seen (sym c.is_shut.ensures.shut ∙ c.if-is_shut.false) in
    record {
      shuts = subst (λ (z : WorkerState g.row.W.Denot). Shuts z w) c.self.view_is
          (drains opens (moves_by (Drain ∷ []) 0 i.tries left left i.work i.work o q b) refl refl);
      shut = e.shut;
      deals = subst (λ (z : WorkerState g.row.W.Denot). WorksInStep g.W.Work.may z w) c.self.view_is
          (keeps (Drain ∷ []) a_drain (moves_by (Drain ∷ []) 0 i.tries left left i.work i.work o q b) (refl, refl));
    }
