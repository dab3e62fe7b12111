use Rattle.wq_live.proofs.Common.{◌≡◌, [], sym, ap, ◌∙◌, subst, IsRunning, IsShut, accepted, begun, ended, own, batch, Known, IsSame, Rests, owning, owner_view}
use Rattle.wq_live.proofs.Alone.{owner_alone}
use Rattle.wq_live.proofs.owner.Owner.rest.Goals as goal

pub rest-requires : goal.rest-requires
rest-requires c = let back = sym c.self.view_is in record {
  owns = c.self.invariant.owns;
  «open» = subst (λ (k : Known). ¬ IsShut k.seen) back c.requires.«open»;
  empty = subst (λ (k : Known). batch k.seen ≡ []) back c.requires.empty;
  idle = subst (λ (k : Known). ¬ IsRunning k.seen) back c.requires.idle;
}

pub returns : goal.returns
returns c = let e = c.rest.ensures in let is = c.self.view_is in let new = owner_view (owning c.rest.new.self) in record {
  seen = subst (λ (k : Known). Rests c.rest.result k new) is e.seen;
  unqueued = e.unqueued ∙ ap (λ (k : Known). accepted (own k.number k.seen)) is;
  executions = subst (λ (k : Known). (begun new.seen ≡ begun k.seen) × (ended new.seen ≡ ended k.seen)) is e.executions;
  rested = e.rested;
  refused = e.refused;
  same = subst (λ (k : Known). IsSame k new) is e.same;
  «open» = e.«open»;
  unclosed = e.unclosed;
  empty = e.empty;
  idle = e.idle;
}

pub invariant_of-self : goal.invariant_of-self
invariant_of-self c = owner_alone c.self.inside (record { seat = c.rest.new.self }) c.self.invariant c.rest.ensures.owns c.rest.ensures.learns
