use Rattle.wq_live.proofs.Common.{◌≡◌, [], ◌∷◌, sym, ap, ◌∙◌, subst, Resume, IsRunning, IsDraining, accepted, begun, ended, own, batch, Known, Sees, owning}
use Rattle.wq_live.proofs.Common.{owner_view}
use Rattle.wq_live.proofs.Alone.{owner_alone}
use Rattle.wq_live.proofs.owner.Owner.resume.Goals as goal

pub resume-requires : goal.resume-requires
resume-requires c = let back = sym c.self.view_is in record {
  owns = c.self.invariant.owns;
  draining = subst (λ (k : Known). IsDraining k.seen) back c.requires.draining;
  empty = subst (λ (k : Known). batch k.seen ≡ []) back c.requires.empty;
  idle = subst (λ (k : Known). ¬ IsRunning k.seen) back c.requires.idle;
}

pub returns : goal.returns
returns c = let e = c.resume.ensures in let is = c.self.view_is in let new = owner_view (owning c.resume.new.self) in record {
  seen = subst (λ (k : Known). Sees (Resume ∷ []) 0 k new) is e.seen;
  unqueued = e.unqueued ∙ ap (λ (k : Known). accepted (own k.number k.seen)) is;
  executions = subst (λ (k : Known). (begun new.seen ≡ begun k.seen) × (ended new.seen ≡ ended k.seen)) is e.executions;
  «open» = e.«open»;
  unclosed = e.unclosed;
  empty = e.empty;
  idle = e.idle;
}

pub invariant_of-self : goal.invariant_of-self
invariant_of-self c = owner_alone c.self.inside (record { seat = c.resume.new.self }) c.self.invariant c.resume.ensures.owns c.resume.ensures.learns
