use Rattle.wq_live.proofs.Common.{◌≡◌, ◌≢◌, [], ◌∷◌, ◌++◌, Some, arith, sym, ap, ◌∙◌, subst, Begin, IsRunning, IsClosed, IsShut, accepted, begun}
use Rattle.wq_live.proofs.Common.{ended, own, owner_seat, batch, next_of, KnownPair, pair_owner, Sees, owning, owner_view}
use Rattle.wq_calls.proofs.InOneSeat.{sender_sees}
use Rattle.wq_live.proofs.PlainPaired.{pair_acts}
use Rattle.wq_live.proofs.pair.Pair.begin.Goals as goal

pub begin-requires : goal.begin-requires
begin-requires c = let o = c.self.invariant.seated.owns in let back = sym c.self.view_is in record {
  owns = o.queue;
  slots = record {
    some = λ some. absurd (omega (arith, some, c.self.invariant.bare));
    none = o.slots.none;
  };
  waits = subst (λ (k : KnownPair). batch k.seen ≢ []) back c.requires.waits;
  idle = subst (λ (k : KnownPair). ¬ IsRunning k.seen) back c.requires.idle;
}

pub returns : goal.returns
returns c = let s = c.self.inside in let e = c.begin.ensures in let is = c.self.view_is in let new = owner_view (owning c.begin.new.self) in record {
  next = subst (λ (k : KnownPair). next_of k.seen ≡ Some c.begin.result) is e.next;
  seen = subst (λ (k : KnownPair). Sees (Begin c.begin.result ∷ []) 0 (pair_owner k) new) is e.seen;
  unqueued = e.unqueued ∙ ap (λ (k : KnownPair). accepted (own owner_seat k.seen)) is;
  executions = subst (λ (k : KnownPair). (begun new.seen ≡ begun k.seen ++ c.begin.result ∷ []) × (ended new.seen ≡ ended k.seen)) is e.executions;
  batch = sym (ap (λ (k : KnownPair). batch k.seen) is) ∙ e.batch;
  runs = e.runs;
  running = e.running;
  shut = subst (λ (k : KnownPair). IsShut k.seen → IsShut new.seen) is e.shut;
  closed = subst (λ (k : KnownPair). IsClosed k.seen → IsClosed new.seen) is e.closed;
  «open» = subst (λ (k : KnownPair). ¬ IsShut k.seen → ¬ IsShut new.seen) is e.«open»;
  unclosed = subst (λ (k : KnownPair). ¬ IsClosed k.seen → ¬ IsClosed new.seen) is e.unclosed;
  others = sender_sees s.seat c.begin.new.self s.sent c.self.invariant.seated e.owns e.seen.same e.learns c.args.self.now is;
}

pub invariant_of-self : goal.invariant_of-self
invariant_of-self c = let e = c.begin.ensures in pair_acts c.self.inside c.self.invariant c.begin.new.self e.owns e.seen.same e.learns
