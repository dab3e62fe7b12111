use Rattle.wq_live.proofs.Common.{◌≡◌, ◌<◌, ◌++◌, sym, ap, ◌∙◌, subst, IsRunning, IsClosed, IsShut, running, begun, ended, batch, Known, IsSame, Chains}
use Rattle.wq_live.proofs.Common.{queued_number, owning, owner_view}
use Rattle.wq_live.proofs.Alone.{owner_alone}
use Rattle.wq_live.proofs.owner.Owner.chain.Goals as goal

pub chain-requires : goal.chain-requires
chain-requires c = let back = sym c.self.view_is in record {
  owns = c.self.invariant.owns;
  bare = c.self.invariant.bare;
  item = subst (λ (k : Known). c.args.item < k.layout.items) back c.requires.item;
  shut = subst (λ (k : Known). IsShut k.seen) back c.requires.shut;
  runs = subst (λ (k : Known). IsRunning k.seen) back c.requires.runs;
}

pub returns : goal.returns
returns c = let e = c.chain.ensures in let is = c.self.view_is in let new = owner_view (owning c.chain.new.self) in record {
  answer = subst (λ (k : Known). Chains c.args.item c.chain.result k new) is e.answer;
  same = subst (λ (k : Known). IsSame k new) is e.same;
  batch = e.batch ∙ ap (λ (k : Known). batch k.seen ++ queued_number c.args.item c.chain.result) is;
  executions = subst (λ (k : Known). (begun new.seen ≡ begun k.seen) × (ended new.seen ≡ ended k.seen)) is e.executions;
  running = e.running ∙ ap (λ (k : Known). running k.seen) is;
  shut = e.shut;
  closed = subst (λ (k : Known). IsClosed k.seen → IsClosed new.seen) is e.closed;
  unclosed = subst (λ (k : Known). ¬ IsClosed k.seen → ¬ IsClosed new.seen) is e.unclosed;
  runs = e.runs;
}

pub invariant_of-self : goal.invariant_of-self
invariant_of-self c = owner_alone c.self.inside (record { seat = c.chain.new.self }) c.self.invariant c.chain.ensures.owns c.chain.ensures.learns
