use Rattle.wq_values.proofs.Common.{◌≡◌, ◌≢◌, [], ◌∷◌, ◌++◌, Some, length, slice_get, ap, sym, ◌∙◌, subst, Begin, accepted, begun, ended, own}
use Rattle.wq_values.proofs.Common.{IsRunning, IsClosed, IsShut, Carries, Known, Sees, batch, next_of, owning, owner_view}
use Rattle.wq_calls.proofs.ValueSeats.{known_is, owner_learnt}
use Rattle.wq_calls.proofs.HandedOver.{owner_hands}
use Rattle.wq_values.proofs.Alone.{values_alone}
use Rattle.wq_values.proofs.value_owner.ValueOwner.begin.Goals as goal

pub invariant_of-self : goal.invariant_of-self
invariant_of-self g c = let e = c.begin_value.ensures in values_alone c.self.inside (record { seat = c.begin_value.new.self }) e.learns c.self.invariant e.owns

pub begin_value-requires : goal.begin_value-requires
begin_value-requires g c = let i = c.self.invariant in let was = known_is c.self.inside.seat c.args.self.now c.self.view_is in record {
  owns = i.owns;
  slots = i.slots;
  waits = subst (λ (k : Known). batch k.seen ≢ []) (sym was) c.requires.waits;
  idle = subst (λ (k : Known). ¬ IsRunning k.seen) (sym was) c.requires.idle;
}

pub returns : goal.returns
returns g c = let s = c.self.inside.seat in let t = c.begin_value.new.self in let e = c.begin_value.ensures in let i = c.self.invariant in
    let now = c.args.self.now in let view = c.self.view_is in let was = known_is s now view in
    let new = owner_view (owning t) in let n = c.begin_value.result.0 in let y = c.begin_value.result.1 in record {
      next = subst (λ (k : Known). next_of k.seen ≡ Some n) was e.next;
      seen = subst (λ (k : Known). Sees (Begin n ∷ []) 0 k new) was e.seen;
      unqueued = e.unqueued ∙ ap (λ (k : Known). accepted (own k.number k.seen)) was;
      executions = subst (λ (k : Known). (begun new.seen ≡ begun k.seen ++ n ∷ []) × (ended new.seen ≡ ended k.seen)) was e.executions;
      learnt = owner_learnt 0 s t e.learns i.known now view;
      handed = owner_hands s t e.learns i.owns i.known now view _ _ e.seen e.value;
      batch = subst (λ (k : Known). batch k.seen ≡ n ∷ batch new.seen) was e.batch;
      value = subst (λ (k : Known). slice_get t.chair.first.brought (length (begun k.seen)) ≡ Some y) was e.value;
      kind = subst (λ (k : Known). Carries k.layout.items n y) was e.kind;
      runs = e.runs;
      running = e.running;
      shut = subst (λ (k : Known). IsShut k.seen → IsShut new.seen) was e.shut;
      closed = subst (λ (k : Known). IsClosed k.seen → IsClosed new.seen) was e.closed;
      «open» = subst (λ (k : Known). ¬ IsShut k.seen → ¬ IsShut new.seen) was e.«open»;
      unclosed = subst (λ (k : Known). ¬ IsClosed k.seen → ¬ IsClosed new.seen) was e.unclosed;
    }
