use Rattle.wq_live.proofs.Common.{◌≡◌, ℕ, [], ◌∷◌, ◌++◌, Some, sym, ap, ◌∙◌, subst, End, IsRunning, IsClosed, IsShut, running, accepted, begun, ended, own}
use Rattle.wq_live.proofs.Common.{batch, Known, IsSame, Sees, owning, owner_view}
use Rattle.wq_live.proofs.Alone.{owner_alone}
use Rattle.wq_live.proofs.owner.Owner.end.Goals as goal

pub end-requires : goal.end-requires
end-requires c = let back = sym c.self.view_is in record {
  owns = c.self.invariant.owns;
  runs = subst (λ (k : Known). IsRunning k.seen) back c.requires.runs;
}

pub returns : goal.returns
returns c = let e = c.end.ensures in let is = c.self.view_is in let new = owner_view (owning c.end.new.self) in record {
  seen = subst (λ (k : Known). (x : ℕ) → running k.seen ≡ Some x → Sees (End x ∷ []) 0 k new) is e.seen;
  unqueued = e.unqueued ∙ ap (λ (k : Known). accepted (own k.number k.seen)) is;
  executions = subst (λ (k : Known). (begun new.seen ≡ begun k.seen)
      × ((x : ℕ) → running k.seen ≡ Some x → ended new.seen ≡ ended k.seen ++ x ∷ [])) is e.executions;
  same = subst (λ (k : Known). IsSame k new) is e.same;
  batch = e.batch ∙ ap (λ (k : Known). batch k.seen) is;
  idle = e.idle;
  shut = subst (λ (k : Known). IsShut k.seen → IsShut new.seen) is e.shut;
  closed = subst (λ (k : Known). IsClosed k.seen → IsClosed new.seen) is e.closed;
  «open» = subst (λ (k : Known). ¬ IsShut k.seen → ¬ IsShut new.seen) is e.«open»;
  unclosed = subst (λ (k : Known). ¬ IsClosed k.seen → ¬ IsClosed new.seen) is e.unclosed;
}

pub invariant_of-self : goal.invariant_of-self
invariant_of-self c = owner_alone c.self.inside (record { seat = c.end.new.self }) c.self.invariant c.end.ensures.owns c.end.ensures.learns
