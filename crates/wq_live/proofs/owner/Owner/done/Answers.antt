use Rattle.wq_live.proofs.Common.{◌≡◌, ◌↔◌, [], length, IsSome, IfSome, subst, IsClosed, IsRunning, accepted, begun, ended, capped, IsComplete, IsFinal}
use Rattle.wq_live.proofs.Common.{batch, Known}
use Rattle.wq_live.proofs.owner.Owner.done.Goals as goal

pub returns : goal.returns
returns c = let e = c.done.ensures in let is = c.self.view_is in record {
  complete = subst (λ (k : Known). IsSome c.done.result ↔ IsComplete k.seen) is e.complete;
  count = subst (λ (k : Known). IfSome c.done.result (λ done. done.ended ≡ capped (length (ended k.seen)))) is e.count;
  all = subst (λ (k : Known). IsSome c.done.result → (ended k.seen ≡ begun k.seen) × (begun k.seen ≡ accepted k.seen)) is e.all;
  last = subst (λ (k : Known). IsSome c.done.result → IsFinal k.layout k.seen) is e.last;
  finished = subst (λ (k : Known). IsClosed k.seen → batch k.seen ≡ [] → ¬ IsRunning k.seen → IsSome c.done.result) is e.finished;
}
