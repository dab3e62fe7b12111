use Rattle.wq_live.proofs.Common.{◌≡◌, ℕ, [], ◌∷◌, ◌++◌, Some, sym, ap, ◌∙◌, subst, End, IsRunning, IsClosed, IsShut, running, accepted, begun, ended, own}
use Rattle.wq_live.proofs.Common.{owner_seat, batch, KnownPair, pair_owner, Sees, owning, owner_view}
use Rattle.wq_calls.proofs.InOneSeat.{sender_sees}
use Rattle.wq_live.proofs.PlainPaired.{pair_acts}
use Rattle.wq_live.proofs.pair.Pair.end.Goals as goal

pub end-requires : goal.end-requires
end-requires c = let back = sym c.self.view_is in record {
  owns = c.self.invariant.seated.owns;
  runs = subst (λ (k : KnownPair). IsRunning k.seen) back c.requires.runs;
}

pub returns : goal.returns
returns c = let s = c.self.inside in let e = c.end.ensures in let is = c.self.view_is in let new = owner_view (owning c.end.new.self) in record {
  seen = subst (λ (k : KnownPair). (x : ℕ) → running k.seen ≡ Some x → Sees (End x ∷ []) 0 (pair_owner k) new) is e.seen;
  unqueued = e.unqueued ∙ ap (λ (k : KnownPair). accepted (own owner_seat k.seen)) is;
  executions = subst (λ (k : KnownPair). (begun new.seen ≡ begun k.seen)
      × ((x : ℕ) → running k.seen ≡ Some x → ended new.seen ≡ ended k.seen ++ x ∷ [])) is e.executions;
  batch = e.batch ∙ ap (λ (k : KnownPair). batch k.seen) is;
  idle = e.idle;
  shut = subst (λ (k : KnownPair). IsShut k.seen → IsShut new.seen) is e.shut;
  closed = subst (λ (k : KnownPair). IsClosed k.seen → IsClosed new.seen) is e.closed;
  «open» = subst (λ (k : KnownPair). ¬ IsShut k.seen → ¬ IsShut new.seen) is e.«open»;
  unclosed = subst (λ (k : KnownPair). ¬ IsClosed k.seen → ¬ IsClosed new.seen) is e.unclosed;
  others = sender_sees s.seat c.end.new.self s.sent c.self.invariant.seated e.owns e.same e.learns c.args.self.now is;
}

pub invariant_of-self : goal.invariant_of-self
invariant_of-self c = let e = c.end.ensures in pair_acts c.self.inside c.self.invariant c.end.new.self e.owns e.same e.learns
