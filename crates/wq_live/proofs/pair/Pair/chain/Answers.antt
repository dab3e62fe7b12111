use Rattle.wq_live.proofs.Common.{◌≡◌, ◌<◌, ◌++◌, sym, ap, ◌∙◌, subst, IsRunning, IsClosed, IsShut, running, begun, ended, batch, KnownPair, pair_owner, Chains}
use Rattle.wq_live.proofs.Common.{queued_number, owning, owner_view}
use Rattle.wq_calls.proofs.InOneSeat.{sender_sees}
use Rattle.wq_live.proofs.PlainPaired.{pair_acts}
use Rattle.wq_live.proofs.pair.Pair.chain.Goals as goal

pub chain-requires : goal.chain-requires
chain-requires c = let back = sym c.self.view_is in record {
  owns = c.self.invariant.seated.owns;
  bare = c.self.invariant.bare;
  item = subst (λ (k : KnownPair). c.args.item < k.layout.items) back c.requires.item;
  shut = subst (λ (k : KnownPair). IsShut k.seen) back c.requires.shut;
  runs = subst (λ (k : KnownPair). IsRunning k.seen) back c.requires.runs;
}

pub returns : goal.returns
returns c = let s = c.self.inside in let e = c.chain.ensures in let is = c.self.view_is in let new = owner_view (owning c.chain.new.self) in record {
  answer = subst (λ (k : KnownPair). Chains c.args.item c.chain.result (pair_owner k) new) is e.answer;
  batch = e.batch ∙ ap (λ (k : KnownPair). batch k.seen ++ queued_number c.args.item c.chain.result) is;
  executions = subst (λ (k : KnownPair). (begun new.seen ≡ begun k.seen) × (ended new.seen ≡ ended k.seen)) is e.executions;
  running = e.running ∙ ap (λ (k : KnownPair). running k.seen) is;
  shut = e.shut;
  closed = subst (λ (k : KnownPair). IsClosed k.seen → IsClosed new.seen) is e.closed;
  unclosed = subst (λ (k : KnownPair). ¬ IsClosed k.seen → ¬ IsClosed new.seen) is e.unclosed;
  runs = e.runs;
  others = sender_sees s.seat c.chain.new.self s.sent c.self.invariant.seated e.owns e.same e.learns c.args.self.now is;
}

pub invariant_of-self : goal.invariant_of-self
invariant_of-self c = let e = c.chain.ensures in pair_acts c.self.inside c.self.invariant c.chain.new.self e.owns e.same e.learns
