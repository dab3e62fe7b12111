use Rattle.wq_live.proofs.Common.{◌≡◌, ◌+◌, [], ◌∷◌, length, sym, ap, ◌∙◌, subst, IsPrefix, Drain, IsRunning, IsShut, accepted, begun, ended, own, owner_seat}
use Rattle.wq_live.proofs.Common.{batch, KnownPair, pair_owner, Sees, owning, owner_view}
use Rattle.wq_calls.proofs.InOneSeat.{sender_sees}
use Rattle.wq_live.proofs.PlainPaired.{pair_acts}
use Rattle.wq_live.proofs.pair.Pair.drain.Goals as goal

pub drain-requires : goal.drain-requires
drain-requires c = let back = sym c.self.view_is in record {
  owns = c.self.invariant.seated.owns;
  «open» = subst (λ (k : KnownPair). ¬ IsShut k.seen) back c.requires.«open»;
}

pub returns : goal.returns
returns c = let s = c.self.inside in let e = c.drain.ensures in let is = c.self.view_is in let new = owner_view (owning c.drain.new.self) in record {
  seen = subst (λ (k : KnownPair). Sees (Drain ∷ []) 0 (pair_owner k) new) is e.seen;
  unqueued = e.unqueued ∙ ap (λ (k : KnownPair). accepted (own owner_seat k.seen)) is;
  executions = subst (λ (k : KnownPair). (begun new.seen ≡ begun k.seen) × (ended new.seen ≡ ended k.seen)) is e.executions;
  takes = e.takes;
  behind = subst (λ (k : KnownPair). IsPrefix (batch k.seen) (batch new.seen)) is e.behind;
  count = e.count ∙ ap (λ (k : KnownPair). length (batch k.seen) + c.drain.result) is;
  draining = e.draining;
  shut = e.shut;
  unclosed = e.unclosed;
  idle = subst (λ (k : KnownPair). ¬ IsRunning k.seen → ¬ IsRunning new.seen) is e.idle;
  runs = subst (λ (k : KnownPair). IsRunning k.seen → IsRunning new.seen) is e.runs;
  others = sender_sees s.seat c.drain.new.self s.sent c.self.invariant.seated e.owns e.seen.same e.learns c.args.self.now is;
}

pub invariant_of-self : goal.invariant_of-self
invariant_of-self c = let e = c.drain.ensures in pair_acts c.self.inside c.self.invariant c.drain.new.self e.owns e.seen.same e.learns
