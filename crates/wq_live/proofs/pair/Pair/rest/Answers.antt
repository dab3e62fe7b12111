use Rattle.wq_live.proofs.Common.{◌≡◌, [], sym, ap, ◌∙◌, subst, IsRunning, IsShut, accepted, begun, ended, own, owner_seat, batch, KnownPair, pair_owner, Rests}
use Rattle.wq_live.proofs.Common.{owning, owner_view}
use Rattle.wq_calls.proofs.InOneSeat.{sender_sees}
use Rattle.wq_live.proofs.PlainPaired.{pair_acts}
use Rattle.wq_live.proofs.pair.Pair.rest.Goals as goal

pub rest-requires : goal.rest-requires
rest-requires c = let back = sym c.self.view_is in record {
  owns = c.self.invariant.seated.owns;
  «open» = subst (λ (k : KnownPair). ¬ IsShut k.seen) back c.requires.«open»;
  empty = subst (λ (k : KnownPair). batch k.seen ≡ []) back c.requires.empty;
  idle = subst (λ (k : KnownPair). ¬ IsRunning k.seen) back c.requires.idle;
}

pub returns : goal.returns
returns c = let s = c.self.inside in let e = c.rest.ensures in let is = c.self.view_is in let new = owner_view (owning c.rest.new.self) in record {
  seen = subst (λ (k : KnownPair). Rests c.rest.result (pair_owner k) new) is e.seen;
  unqueued = e.unqueued ∙ ap (λ (k : KnownPair). accepted (own owner_seat k.seen)) is;
  executions = subst (λ (k : KnownPair). (begun new.seen ≡ begun k.seen) × (ended new.seen ≡ ended k.seen)) is e.executions;
  rested = e.rested;
  refused = e.refused;
  «open» = e.«open»;
  unclosed = e.unclosed;
  empty = e.empty;
  idle = e.idle;
  others = sender_sees s.seat c.rest.new.self s.sent c.self.invariant.seated e.owns e.same e.learns c.args.self.now is;
}

pub invariant_of-self : goal.invariant_of-self
invariant_of-self c = let e = c.rest.ensures in pair_acts c.self.inside c.self.invariant c.rest.new.self e.owns e.same e.learns
