use Rattle.wq_live.proofs.Common.{◌≡◌, ◌+◌, [], ◌∷◌, length, sym, ap, ◌∙◌, subst, IsPrefix, Close, IsRunning, IsClosed, accepted, begun, ended, own, batch}
use Rattle.wq_live.proofs.Common.{Known, Sees, owning, owner_view}
use Rattle.wq_live.proofs.Alone.{owner_alone}
use Rattle.wq_live.proofs.owner.Owner.close.Goals as goal

pub close-requires : goal.close-requires
close-requires c = let back = sym c.self.view_is in record {
  owns = c.self.invariant.owns;
  unclosed = subst (λ (k : Known). ¬ IsClosed k.seen) back c.requires.unclosed;
}

pub returns : goal.returns
returns c = let e = c.close.ensures in let is = c.self.view_is in let new = owner_view (owning c.close.new.self) in record {
  seen = subst (λ (k : Known). Sees (Close ∷ []) 0 k new) is e.seen;
  unqueued = e.unqueued ∙ ap (λ (k : Known). accepted (own k.number k.seen)) is;
  executions = subst (λ (k : Known). (begun new.seen ≡ begun k.seen) × (ended new.seen ≡ ended k.seen)) is e.executions;
  takes = e.takes;
  behind = subst (λ (k : Known). IsPrefix (batch k.seen) (batch new.seen)) is e.behind;
  count = e.count ∙ ap (λ (k : Known). length (batch k.seen) + c.close.result) is;
  closed = e.closed;
  shut = e.shut;
  idle = subst (λ (k : Known). ¬ IsRunning k.seen → ¬ IsRunning new.seen) is e.idle;
  runs = subst (λ (k : Known). IsRunning k.seen → IsRunning new.seen) is e.runs;
}

pub invariant_of-self : goal.invariant_of-self
invariant_of-self c = owner_alone c.self.inside (record { seat = c.close.new.self }) c.self.invariant c.close.ensures.owns c.close.ensures.learns
