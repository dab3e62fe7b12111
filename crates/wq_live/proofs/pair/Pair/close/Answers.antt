use Rattle.wq_live.proofs.Common.{◌≡◌, ◌+◌, [], ◌∷◌, length, sym, ap, ◌∙◌, subst, IsPrefix, Close, IsRunning, IsClosed, accepted, begun, ended, own, owner_seat}
use Rattle.wq_live.proofs.Common.{batch, KnownPair, pair_owner, Sees, owning, owner_view}
use Rattle.wq_calls.proofs.InOneSeat.{sender_sees}
use Rattle.wq_live.proofs.PlainPaired.{pair_acts}
use Rattle.wq_live.proofs.pair.Pair.close.Goals as goal

pub close-requires : goal.close-requires
close-requires c = let back = sym c.self.view_is in record {
  owns = c.self.invariant.seated.owns;
  unclosed = subst (λ (k : KnownPair). ¬ IsClosed k.seen) back c.requires.unclosed;
}

pub returns : goal.returns
returns c = let s = c.self.inside in let e = c.close.ensures in let is = c.self.view_is in let new = owner_view (owning c.close.new.self) in record {
  seen = subst (λ (k : KnownPair). Sees (Close ∷ []) 0 (pair_owner k) new) is e.seen;
  unqueued = e.unqueued ∙ ap (λ (k : KnownPair). accepted (own owner_seat k.seen)) is;
  executions = subst (λ (k : KnownPair). (begun new.seen ≡ begun k.seen) × (ended new.seen ≡ ended k.seen)) is e.executions;
  takes = e.takes;
  behind = subst (λ (k : KnownPair). IsPrefix (batch k.seen) (batch new.seen)) is e.behind;
  count = e.count ∙ ap (λ (k : KnownPair). length (batch k.seen) + c.close.result) is;
  closed = e.closed;
  shut = e.shut;
  idle = subst (λ (k : KnownPair). ¬ IsRunning k.seen → ¬ IsRunning new.seen) is e.idle;
  runs = subst (λ (k : KnownPair). IsRunning k.seen → IsRunning new.seen) is e.runs;
  others = sender_sees s.seat c.close.new.self s.sent c.self.invariant.seated e.owns e.seen.same e.learns c.args.self.now is;
}

pub invariant_of-self : goal.invariant_of-self
invariant_of-self c = let e = c.close.ensures in pair_acts c.self.inside c.self.invariant c.close.new.self e.owns e.seen.same e.learns
