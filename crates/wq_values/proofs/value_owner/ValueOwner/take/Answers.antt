use Rattle.wq_values.proofs.Common.{◌≡◌, [], ◌∷◌, ap, sym, refl, ◌∙◌, subst, Take, accepted, begun, ended, own, IsRunning, IsShut, Known, Sees, batch}
use Rattle.wq_values.proofs.Common.{owning, owner_view}
use Rattle.wq_calls.proofs.ValueSeats.{known_is, owner_learnt}
use Rattle.wq_calls.proofs.HandedOver.{owner_stays}
use Rattle.wq_values.proofs.Alone.{values_alone}
use Rattle.wq_values.proofs.value_owner.ValueOwner.take.Goals as goal

pub invariant_of-self : goal.invariant_of-self
invariant_of-self g c = let e = c.take.ensures in values_alone c.self.inside (record { seat = c.take.new.self }) e.learns c.self.invariant e.owns

pub take-requires : goal.take-requires
take-requires g c = let i = c.self.invariant in let was = known_is c.self.inside.seat c.args.self.now c.self.view_is in record {
  owns = i.owns;
  «open» = subst (λ (k : Known). ¬ IsShut k.seen) (sym was) c.requires.«open»;
  empty = subst (λ (k : Known). batch k.seen ≡ []) (sym was) c.requires.empty;
}

pub returns : goal.returns
returns g c = let s = c.self.inside.seat in let t = c.take.new.self in let e = c.take.ensures in let i = c.self.invariant in
    let now = c.args.self.now in let view = c.self.view_is in let was = known_is s now view in
    let new = owner_view (owning t) in record {
      seen = subst (λ (k : Known). Sees (Take ∷ []) 0 k new) was e.seen;
      unqueued = e.unqueued ∙ ap (λ (k : Known). accepted (own k.number k.seen)) was;
      executions = subst (λ (k : Known). (begun new.seen ≡ begun k.seen) × (ended new.seen ≡ ended k.seen)) was e.executions;
      learnt = owner_learnt 0 s t e.learns i.known now view;
      handed = owner_stays s t e.learns i.owns i.known now view (Take ∷ []) 0 refl e.seen;
      takes = e.takes;
      count = e.count;
      «open» = e.«open»;
      unclosed = e.unclosed;
      idle = subst (λ (k : Known). ¬ IsRunning k.seen → ¬ IsRunning new.seen) was e.idle;
      runs = subst (λ (k : Known). IsRunning k.seen → IsRunning new.seen) was e.runs;
    }
