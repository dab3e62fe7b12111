use Rattle.wq_values.proofs.Common.{◌≡◌, ◌+◌, [], ◌∷◌, length, ap, sym, refl, ◌∙◌, subst, IsPrefix, Drain, accepted, begun, ended, own, IsRunning}
use Rattle.wq_values.proofs.Common.{IsShut, Known, Sees, batch, owning, owner_view, owner_of}
use Rattle.wq_calls.proofs.ValueSeats.{known_is}
use Rattle.wq_calls.proofs.HandedOver.{owner_stays}
use Rattle.wq_values.proofs.ValuePaired.{values_act, others_see, acts_learnt}
use Rattle.wq_values.proofs.value_pair.ValuePair.drain.Goals as goal

pub invariant_of-self : goal.invariant_of-self
invariant_of-self g c = let e = c.drain.ensures in values_act c.self.inside c.self.invariant c.drain.new.self e.owns e.seen.same e.learns

pub drain-requires : goal.drain-requires
drain-requires g c = let i = c.self.invariant in let was = known_is c.self.inside.seat (owner_of c.args.self.now) (ap owner_of c.self.view_is) in record {
  owns = i.seated.owns;
  «open» = subst (λ (k : Known). ¬ IsShut k.seen) (sym was) c.requires.«open»;
}

pub returns : goal.returns
returns g c = let s = c.self.inside in let t = c.drain.new.self in let e = c.drain.ensures in let i = c.self.invariant in
    let now = c.args.self.now in let view = c.self.view_is in let was = known_is s.seat (owner_of now) (ap owner_of view) in
    let new = owner_view (owning t) in let n = c.drain.result in record {
      seen = subst (λ (k : Known). Sees (Drain ∷ []) 0 k new) was e.seen;
      unqueued = e.unqueued ∙ ap (λ (k : Known). accepted (own k.number k.seen)) was;
      executions = subst (λ (k : Known). (begun new.seen ≡ begun k.seen) × (ended new.seen ≡ ended k.seen)) was e.executions;
      learnt = acts_learnt s i t e.owns e.seen.same e.learns now view;
      handed = owner_stays s.seat t e.learns i.seated.owns i.known (owner_of now) (ap owner_of view) (Drain ∷ []) 0 refl e.seen;
      takes = e.takes;
      behind = subst (λ (k : Known). IsPrefix (batch k.seen) (batch new.seen)) was e.behind;
      count = subst (λ (k : Known). length (batch new.seen) ≡ length (batch k.seen) + n) was e.count;
      draining = e.draining;
      shut = e.shut;
      unclosed = e.unclosed;
      idle = subst (λ (k : Known). ¬ IsRunning k.seen → ¬ IsRunning new.seen) was e.idle;
      runs = subst (λ (k : Known). IsRunning k.seen → IsRunning new.seen) was e.runs;
      others = others_see s i t e.owns e.seen.same e.learns now view;
    }
