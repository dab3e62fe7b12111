use Rattle.std.specs.Prelude.{◌↔◌}
use Rattle.wq_words.specs.Legal.{HasRunOut}
use Rattle.wq_values.proofs.Common.{◌≡◌, [], IsTrue, subst, accepted, begun, ended, IsRunning, IsDraining, Known, batch}
use Rattle.wq_calls.proofs.ValueSeats.{known_is}
use Rattle.wq_values.proofs.value_owner.ValueOwner.drained.Goals as goal

pub returns : goal.returns
returns g c = let e = c.drained.ensures in let r = c.drained.result in
    let was = known_is c.self.inside.seat c.args.self.now c.self.view_is in record {
      drained = subst (λ (k : Known). IsTrue r ↔ (IsDraining k.seen × HasRunOut k.seen)) was e.drained;
      all = subst (λ (k : Known). IsTrue r → (ended k.seen ≡ begun k.seen) × (begun k.seen ≡ accepted k.seen)) was e.all;
      resumable = subst (λ (k : Known). IsTrue r → (batch k.seen ≡ []) × (¬ IsRunning k.seen)) was e.resumable;
      finished = subst (λ (k : Known). IsDraining k.seen → batch k.seen ≡ [] → ¬ IsRunning k.seen → IsTrue r) was e.finished;
    }
