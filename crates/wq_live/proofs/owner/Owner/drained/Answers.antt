use Rattle.wq_live.proofs.Common.{◌≡◌, ◌↔◌, [], IsTrue, subst, IsDraining, IsRunning, accepted, begun, ended, HasRunOut, batch, Known}
use Rattle.wq_live.proofs.owner.Owner.drained.Goals as goal

pub returns : goal.returns
returns c = let e = c.drained.ensures in let is = c.self.view_is in let drained = IsTrue c.drained.result in record {
  drained = subst (λ (k : Known). drained ↔ (IsDraining k.seen × HasRunOut k.seen)) is e.drained;
  all = subst (λ (k : Known). drained → (ended k.seen ≡ begun k.seen) × (begun k.seen ≡ accepted k.seen)) is e.all;
  resumable = subst (λ (k : Known). drained → (batch k.seen ≡ []) × (¬ IsRunning k.seen)) is e.resumable;
  finished = subst (λ (k : Known). IsDraining k.seen → batch k.seen ≡ [] → ¬ IsRunning k.seen → drained) is e.finished;
}
