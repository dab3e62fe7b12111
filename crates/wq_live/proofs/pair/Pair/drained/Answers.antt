use Rattle.wq_live.proofs.Common.{◌≡◌, ◌↔◌, [], IsTrue, subst, IsDraining, IsRunning, accepted, begun, ended, HasRunOut, batch, KnownPair}
use Rattle.wq_live.proofs.pair.Pair.drained.Goals as goal

pub returns : goal.returns
returns c = let e = c.drained.ensures in let is = c.self.view_is in let drained = IsTrue c.drained.result in record {
  drained = subst (λ (k : KnownPair). drained ↔ (IsDraining k.seen × HasRunOut k.seen)) is e.drained;
  all = subst (λ (k : KnownPair). drained → (ended k.seen ≡ begun k.seen) × (begun k.seen ≡ accepted k.seen)) is e.all;
  resumable = subst (λ (k : KnownPair). drained → (batch k.seen ≡ []) × (¬ IsRunning k.seen)) is e.resumable;
  finished = subst (λ (k : KnownPair). IsDraining k.seen → batch k.seen ≡ [] → ¬ IsRunning k.seen → drained) is e.finished;
}
