use Rattle.wq_values.proofs.Common.{◌≡◌, ◌<◌, ◌++◌, ap, sym, ◌∙◌, subst, begun, ended, running, IsRunning, IsClosed, IsShut, Known, IsSame, answer_of}
use Rattle.wq_values.proofs.Common.{batch, queued_number, owning, owner_view}
use Rattle.wq_calls.proofs.ValueSeats.{known_is, owner_learnt}
use Rattle.wq_calls.proofs.HandedOver.{Chains, owner_chains}
use Rattle.wq_values.proofs.Alone.{values_alone}
use Rattle.wq_values.proofs.value_owner.ValueOwner.chain_value.Goals as goal

pub invariant_of-self : goal.invariant_of-self
invariant_of-self g c = let e = c.chain_value.ensures in values_alone c.self.inside (record { seat = c.chain_value.new.self }) e.learns c.self.invariant e.owns

pub chain_value-requires : goal.chain_value-requires
chain_value-requires g c = let i = c.self.invariant in let was = known_is c.self.inside.seat c.args.self.now c.self.view_is in record {
  owns = i.owns;
  slots = i.slots;
  item = subst (λ (k : Known). c.args.item < k.layout.items) (sym was) c.requires.item;
  shut = subst (λ (k : Known). IsShut k.seen) (sym was) c.requires.shut;
  runs = subst (λ (k : Known). IsRunning k.seen) (sym was) c.requires.runs;
}

pub returns : goal.returns
returns g c = let s = c.self.inside.seat in let t = c.chain_value.new.self in let e = c.chain_value.ensures in let i = c.self.invariant in
    let now = c.args.self.now in let view = c.self.view_is in let was = known_is s now view in
    let new = owner_view (owning t) in let r = c.chain_value.result in record {
      answer = subst (λ (k : Known). Chains c.args.item (answer_of r) k new) was e.answer;
      value = e.value;
      learnt = owner_learnt 0 s t e.learns i.known now view;
      handed = owner_chains s t e.learns i.owns i.known now view c.args.item _ e.answer;
      same = subst (λ (k : Known). IsSame k new) was e.same;
      batch = e.batch ∙ ap (λ (k : Known). batch k.seen ++ queued_number c.args.item (answer_of r)) was;
      executions = subst (λ (k : Known). (begun new.seen ≡ begun k.seen) × (ended new.seen ≡ ended k.seen)) was e.executions;
      running = e.running ∙ ap (λ (k : Known). running k.seen) was;
      shut = e.shut;
      closed = subst (λ (k : Known). IsClosed k.seen → IsClosed new.seen) was e.closed;
      unclosed = subst (λ (k : Known). ¬ IsClosed k.seen → ¬ IsClosed new.seen) was e.unclosed;
      runs = e.runs;
    }
