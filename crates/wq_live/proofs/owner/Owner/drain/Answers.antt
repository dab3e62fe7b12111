use Rattle.wq_live.proofs.Common.{◌≡◌, ◌+◌, [], ◌∷◌, length, sym, ap, ◌∙◌, subst, IsPrefix, Drain, IsRunning, IsShut, accepted, begun, ended, own, batch, Known}
use Rattle.wq_live.proofs.Common.{Sees, owning, owner_view}
use Rattle.wq_live.proofs.Alone.{owner_alone}
use Rattle.wq_live.proofs.owner.Owner.drain.Goals as goal

pub drain-requires : goal.drain-requires
drain-requires c = let back = sym c.self.view_is in record {
  owns = c.self.invariant.owns;
  «open» = subst (λ (k : Known). ¬ IsShut k.seen) back c.requires.«open»;
}

pub returns : goal.returns
returns c = let e = c.drain.ensures in let is = c.self.view_is in let new = owner_view (owning c.drain.new.self) in record {
  seen = subst (λ (k : Known). Sees (Drain ∷ []) 0 k new) is e.seen;
  unqueued = e.unqueued ∙ ap (λ (k : Known). accepted (own k.number k.seen)) is;
  executions = subst (λ (k : Known). (begun new.seen ≡ begun k.seen) × (ended new.seen ≡ ended k.seen)) is e.executions;
  takes = e.takes;
  behind = subst (λ (k : Known). IsPrefix (batch k.seen) (batch new.seen)) is e.behind;
  count = e.count ∙ ap (λ (k : Known). length (batch k.seen) + c.drain.result) is;
  draining = e.draining;
  shut = e.shut;
  unclosed = e.unclosed;
  idle = subst (λ (k : Known). ¬ IsRunning k.seen → ¬ IsRunning new.seen) is e.idle;
  runs = subst (λ (k : Known). IsRunning k.seen → IsRunning new.seen) is e.runs;
}

pub invariant_of-self : goal.invariant_of-self
invariant_of-self c = owner_alone c.self.inside (record { seat = c.drain.new.self }) c.self.invariant c.drain.ensures.owns c.drain.ensures.learns
