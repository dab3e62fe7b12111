use Rattle.wq_live.proofs.Common.{◌≡◌, ◌↔◌, false, IsTrue, subst, IsClosed, IsDraining, IsShut, KnownPair}
use Rattle.wq_live.proofs.pair.Pair.is_draining.Goals as goal

pub returns : goal.returns
returns c = let e = c.is_draining.ensures in let is = c.self.view_is in record {
  draining = subst (λ (k : KnownPair). IsTrue c.is_draining.result ↔ IsDraining k.seen) is e.draining;
  else_open = subst (λ (k : KnownPair). c.is_draining.result ≡ false → ¬ IsClosed k.seen → ¬ IsShut k.seen) is e.else_open;
}
