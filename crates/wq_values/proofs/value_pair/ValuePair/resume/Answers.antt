use Rattle.wq_values.proofs.Common.{◌≡◌, [], ◌∷◌, ap, sym, refl, ◌∙◌, subst, Resume, accepted, begun, ended, own, IsRunning, IsDraining, Known, Sees}
use Rattle.wq_values.proofs.Common.{batch, owning, owner_view, owner_of}
use Rattle.wq_calls.proofs.ValueSeats.{known_is}
use Rattle.wq_calls.proofs.HandedOver.{owner_stays}
use Rattle.wq_values.proofs.ValuePaired.{values_act, others_see, acts_learnt}
use Rattle.wq_values.proofs.value_pair.ValuePair.resume.Goals as goal

pub invariant_of-self : goal.invariant_of-self
invariant_of-self g c = let e = c.resume.ensures in values_act c.self.inside c.self.invariant c.resume.new.self e.owns e.seen.same e.learns

pub resume-requires : goal.resume-requires
resume-requires g c = let i = c.self.invariant in let was = known_is c.self.inside.seat (owner_of c.args.self.now) (ap owner_of c.self.view_is) in record {
  owns = i.seated.owns;
  draining = subst (λ (k : Known). IsDraining k.seen) (sym was) c.requires.draining;
  empty = subst (λ (k : Known). batch k.seen ≡ []) (sym was) c.requires.empty;
  idle = subst (λ (k : Known). ¬ IsRunning k.seen) (sym was) c.requires.idle;
}

pub returns : goal.returns
returns g c = let s = c.self.inside in let t = c.resume.new.self in let e = c.resume.ensures in let i = c.self.invariant in
    let now = c.args.self.now in let view = c.self.view_is in let was = known_is s.seat (owner_of now) (ap owner_of view) in
    let new = owner_view (owning t) in record {
      seen = subst (λ (k : Known). Sees (Resume ∷ []) 0 k new) was e.seen;
      unqueued = e.unqueued ∙ ap (λ (k : Known). accepted (own k.number k.seen)) was;
      executions = subst (λ (k : Known). (begun new.seen ≡ begun k.seen) × (ended new.seen ≡ ended k.seen)) was e.executions;
      learnt = acts_learnt s i t e.owns e.seen.same e.learns now view;
      handed = owner_stays s.seat t e.learns i.seated.owns i.known (owner_of now) (ap owner_of view) (Resume ∷ []) 0 refl e.seen;
      «open» = e.«open»;
      unclosed = e.unclosed;
      empty = e.empty;
      idle = e.idle;
      others = others_see s i t e.owns e.seen.same e.learns now view;
    }
