use Rattle.wq_values.proofs.Common.{◌≡◌, ℕ, [], ◌∷◌, ◌++◌, Some, ap, sym, refl, ◌∙◌, subst, End, accepted, begun, ended, own, running, IsRunning}
use Rattle.wq_values.proofs.Common.{runs_some, IsClosed, IsShut, Known, IsSame, Sees, batch, owning, owner_view}
use Rattle.wq_calls.proofs.ValueSeats.{known_is, owner_learnt}
use Rattle.wq_calls.proofs.HandedOver.{owner_stays}
use Rattle.wq_values.proofs.Alone.{values_alone}
use Rattle.wq_values.proofs.value_owner.ValueOwner.end.Goals as goal

pub invariant_of-self : goal.invariant_of-self
invariant_of-self g c = let e = c.end.ensures in values_alone c.self.inside (record { seat = c.end.new.self }) e.learns c.self.invariant e.owns

pub end-requires : goal.end-requires
end-requires g c = let i = c.self.invariant in let was = known_is c.self.inside.seat c.args.self.now c.self.view_is in record {
  owns = i.owns;
  runs = subst (λ (k : Known). IsRunning k.seen) (sym was) c.requires.runs;
}

pub returns : goal.returns
returns g c = let s = c.self.inside.seat in let t = c.end.new.self in let e = c.end.ensures in let i = c.self.invariant in
    let now = c.args.self.now in let view = c.self.view_is in let was = known_is s now view in
    let new = owner_view (owning t) in
    let some = runs_some (owner_view (owning s)).seen
    (subst (λ (k : Known). IsRunning k.seen) (sym was) c.requires.runs) in record {
      seen = subst (λ (o : Known). (k : ℕ) → running o.seen ≡ Some k → Sees (End k ∷ []) 0 o new) was e.seen;
      unqueued = e.unqueued ∙ ap (λ (k : Known). accepted (own k.number k.seen)) was;
      executions = subst (λ (o : Known). (begun new.seen ≡ begun o.seen)
          × ((k : ℕ) → running o.seen ≡ Some k → ended new.seen ≡ ended o.seen ++ k ∷ [])) was e.executions;
      learnt = owner_learnt 0 s t e.learns i.known now view;
      handed = owner_stays s t e.learns i.owns i.known now view (End some.0 ∷ []) 0 refl (e.seen some.0 some.1);
      same = subst (λ (k : Known). IsSame k new) was e.same;
      batch = e.batch ∙ ap (λ (k : Known). batch k.seen) was;
      idle = e.idle;
      shut = subst (λ (k : Known). IsShut k.seen → IsShut new.seen) was e.shut;
      closed = subst (λ (k : Known). IsClosed k.seen → IsClosed new.seen) was e.closed;
      «open» = subst (λ (k : Known). ¬ IsShut k.seen → ¬ IsShut new.seen) was e.«open»;
      unclosed = subst (λ (k : Known). ¬ IsClosed k.seen → ¬ IsClosed new.seen) was e.unclosed;
    }
