use Rattle.std.specs.Prelude.{◌↔◌, IsSome, IfSome}
use Rattle.wq_words.specs.Legal.{IsComplete}
use Rattle.wq_words.specs.Counting.{capped}
use Rattle.wq_values.proofs.Common.{◌≡◌, [], length, subst, accepted, begun, ended, IsRunning, IsClosed, Known, KnownWith, batch}
use Rattle.wq_calls.specs.Answers.{IsFinal}
use Rattle.wq_calls.proofs.ValueSeats.{known_is}
use Rattle.wq_calls.proofs.Handed.{handed_all}
use Rattle.wq_values.proofs.value_owner.ValueOwner.done.Goals as goal

pub returns : goal.returns
returns g c = let e = c.done.ensures in let r = c.done.result in let now = c.args.self.now in
    let was = known_is c.self.inside.seat now c.self.view_is in record {
      complete = subst (λ (k : Known). IsSome r ↔ IsComplete k.seen) was e.complete;
      count = subst (λ (k : Known). IfSome r (λ done. done.ended ≡ capped (length (ended k.seen)))) was e.count;
      all = subst (λ (k : Known). IsSome r → (ended k.seen ≡ begun k.seen) × (begun k.seen ≡ accepted k.seen)) was e.all;
      handed = λ some. handed_all now.known.seen now.brought (subst (λ (k : Known). begun k.seen ≡ accepted k.seen) was (e.all some).1)
          (subst (λ (k : KnownWith g.row.V.Denot). length k.brought ≡ length (accepted k.known.seen)) c.self.view_is c.self.invariant.known.as_many);
      last = subst (λ (k : Known). IsSome r → IsFinal k.layout k.seen) was e.last;
      finished = subst (λ (k : Known). IsClosed k.seen → batch k.seen ≡ [] → ¬ IsRunning k.seen → IsSome r) was e.finished;
    }
