use Rattle.wq_live.proofs.Common.{◌≡◌, [], ◌∷◌, sym, ap, ◌∙◌, subst, Take, IsRunning, IsShut, accepted, begun, ended, own, batch, Known, Sees, owning}
use Rattle.wq_live.proofs.Common.{owner_view}
use Rattle.wq_live.proofs.Alone.{owner_alone}
use Rattle.wq_live.proofs.owner.Owner.take.Goals as goal

pub take-requires : goal.take-requires
take-requires c = let back = sym c.self.view_is in record {
  owns = c.self.invariant.owns;
  «open» = subst (λ (k : Known). ¬ IsShut k.seen) back c.requires.«open»;
  empty = subst (λ (k : Known). batch k.seen ≡ []) back c.requires.empty;
}

pub returns : goal.returns
returns c = let e = c.take.ensures in let is = c.self.view_is in let new = owner_view (owning c.take.new.self) in record {
  seen = subst (λ (k : Known). Sees (Take ∷ []) 0 k new) is e.seen;
  unqueued = e.unqueued ∙ ap (λ (k : Known). accepted (own k.number k.seen)) is;
  executions = subst (λ (k : Known). (begun new.seen ≡ begun k.seen) × (ended new.seen ≡ ended k.seen)) is e.executions;
  takes = e.takes;
  count = e.count;
  «open» = e.«open»;
  unclosed = e.unclosed;
  idle = subst (λ (k : Known). ¬ IsRunning k.seen → ¬ IsRunning new.seen) is e.idle;
  runs = subst (λ (k : Known). IsRunning k.seen → IsRunning new.seen) is e.runs;
}

pub invariant_of-self : goal.invariant_of-self
invariant_of-self c = owner_alone c.self.inside (record { seat = c.take.new.self }) c.self.invariant c.take.ensures.owns c.take.ensures.learns
