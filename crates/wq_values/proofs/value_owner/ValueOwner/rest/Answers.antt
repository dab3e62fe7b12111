use Rattle.wq_values.proofs.Common.{◌≡◌, [], ap, sym, ◌∙◌, subst, accepted, begun, ended, own, IsRunning, IsShut, Known, IsSame, Rests, batch, owning}
use Rattle.wq_values.proofs.Common.{owner_view}
use Rattle.wq_calls.proofs.ValueSeats.{known_is, owner_learnt}
use Rattle.wq_calls.proofs.HandedOver.{owner_rests}
use Rattle.wq_values.proofs.Alone.{values_alone}
use Rattle.wq_values.proofs.value_owner.ValueOwner.rest.Goals as goal

pub invariant_of-self : goal.invariant_of-self
invariant_of-self g c = let e = c.rest.ensures in values_alone c.self.inside (record { seat = c.rest.new.self }) e.learns c.self.invariant e.owns

pub rest-requires : goal.rest-requires
rest-requires g c = let i = c.self.invariant in let was = known_is c.self.inside.seat c.args.self.now c.self.view_is in record {
  owns = i.owns;
  «open» = subst (λ (k : Known). ¬ IsShut k.seen) (sym was) c.requires.«open»;
  empty = subst (λ (k : Known). batch k.seen ≡ []) (sym was) c.requires.empty;
  idle = subst (λ (k : Known). ¬ IsRunning k.seen) (sym was) c.requires.idle;
}

pub returns : goal.returns
returns g c = let s = c.self.inside.seat in let t = c.rest.new.self in let e = c.rest.ensures in let i = c.self.invariant in
    let now = c.args.self.now in let view = c.self.view_is in let was = known_is s now view in
    let new = owner_view (owning t) in let r = c.rest.result in record {
      seen = subst (λ (k : Known). Rests r k new) was e.seen;
      unqueued = e.unqueued ∙ ap (λ (k : Known). accepted (own k.number k.seen)) was;
      executions = subst (λ (k : Known). (begun new.seen ≡ begun k.seen) × (ended new.seen ≡ ended k.seen)) was e.executions;
      learnt = owner_learnt 0 s t e.learns i.known now view;
      handed = owner_rests s t e.learns i.owns i.known now view r e.seen;
      rested = e.rested;
      refused = e.refused;
      same = subst (λ (k : Known). IsSame k new) was e.same;
      «open» = e.«open»;
      unclosed = e.unclosed;
      empty = e.empty;
      idle = e.idle;
    }
