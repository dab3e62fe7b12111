use Rattle.wq_live.proofs.Common.{◌≡◌, [], ◌∷◌, sym, ap, ◌∙◌, subst, Resume, IsRunning, IsDraining, accepted, begun, ended, own, owner_seat, batch, KnownPair}
use Rattle.wq_live.proofs.Common.{pair_owner, Sees, owning, owner_view}
use Rattle.wq_calls.proofs.InOneSeat.{sender_sees}
use Rattle.wq_live.proofs.PlainPaired.{pair_acts}
use Rattle.wq_live.proofs.pair.Pair.resume.Goals as goal

pub resume-requires : goal.resume-requires
resume-requires c = let back = sym c.self.view_is in record {
  owns = c.self.invariant.seated.owns;
  draining = subst (λ (k : KnownPair). IsDraining k.seen) back c.requires.draining;
  empty = subst (λ (k : KnownPair). batch k.seen ≡ []) back c.requires.empty;
  idle = subst (λ (k : KnownPair). ¬ IsRunning k.seen) back c.requires.idle;
}

pub returns : goal.returns
returns c = let s = c.self.inside in let e = c.resume.ensures in let is = c.self.view_is in let new = owner_view (owning c.resume.new.self) in record {
  seen = subst (λ (k : KnownPair). Sees (Resume ∷ []) 0 (pair_owner k) new) is e.seen;
  unqueued = e.unqueued ∙ ap (λ (k : KnownPair). accepted (own owner_seat k.seen)) is;
  executions = subst (λ (k : KnownPair). (begun new.seen ≡ begun k.seen) × (ended new.seen ≡ ended k.seen)) is e.executions;
  «open» = e.«open»;
  unclosed = e.unclosed;
  empty = e.empty;
  idle = e.idle;
  others = sender_sees s.seat c.resume.new.self s.sent c.self.invariant.seated e.owns e.seen.same e.learns c.args.self.now is;
}

pub invariant_of-self : goal.invariant_of-self
invariant_of-self c = let e = c.resume.ensures in pair_acts c.self.inside c.self.invariant c.resume.new.self e.owns e.seen.same e.learns
