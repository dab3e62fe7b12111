use Rattle.wq_live.proofs.Common.{◌≡◌, ◌≢◌, [], ◌∷◌, ◌++◌, Some, arith, sym, ap, ◌∙◌, subst, Begin, IsRunning, IsClosed, IsShut, accepted, begun}
use Rattle.wq_live.proofs.Common.{ended, own, batch, next_of, Known, Sees, owning, owner_view}
use Rattle.wq_live.proofs.Alone.{owner_alone}
use Rattle.wq_live.proofs.owner.Owner.begin.Goals as goal

pub begin-requires : goal.begin-requires
begin-requires c = let o = c.self.invariant.owns in let back = sym c.self.view_is in record {
  owns = o.queue;
  slots = record {
    some = λ some. absurd (omega (arith, some, c.self.invariant.bare));
    none = o.slots.none;
  };
  waits = subst (λ (k : Known). batch k.seen ≢ []) back c.requires.waits;
  idle = subst (λ (k : Known). ¬ IsRunning k.seen) back c.requires.idle;
}

pub returns : goal.returns
returns c = let e = c.begin.ensures in let is = c.self.view_is in let new = owner_view (owning c.begin.new.self) in record {
  next = subst (λ (k : Known). next_of k.seen ≡ Some c.begin.result) is e.next;
  seen = subst (λ (k : Known). Sees (Begin c.begin.result ∷ []) 0 k new) is e.seen;
  unqueued = e.unqueued ∙ ap (λ (k : Known). accepted (own k.number k.seen)) is;
  executions = subst (λ (k : Known). (begun new.seen ≡ begun k.seen ++ c.begin.result ∷ []) × (ended new.seen ≡ ended k.seen)) is e.executions;
  batch = sym (ap (λ (k : Known). batch k.seen) is) ∙ e.batch;
  runs = e.runs;
  running = e.running;
  shut = subst (λ (k : Known). IsShut k.seen → IsShut new.seen) is e.shut;
  closed = subst (λ (k : Known). IsClosed k.seen → IsClosed new.seen) is e.closed;
  «open» = subst (λ (k : Known). ¬ IsShut k.seen → ¬ IsShut new.seen) is e.«open»;
  unclosed = subst (λ (k : Known). ¬ IsClosed k.seen → ¬ IsClosed new.seen) is e.unclosed;
}

pub invariant_of-self : goal.invariant_of-self
invariant_of-self c = owner_alone c.self.inside (record { seat = c.begin.new.self }) c.self.invariant c.begin.ensures.owns c.begin.ensures.learns
