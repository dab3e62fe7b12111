use Rattle.std.proofs.lemmas.Result.{on_ok_weaker}
use Rattle.wq_script.proofs.Common.{◌≡◌, ◌∙◌, ℕ, ◌++◌, Bool, List, ap, refl, arith, string_bytes, if◌then◌else◌, codes, not, true, false, line}
use Rattle.wq_script.proofs.Meetings.{looked_meets}
use Rattle.wq_script.proofs.engine.Engine.done.Goals as goal

turned : (b : Bool) (x y : List ℕ) → (if not b then x else y) ≡ (if b then y else x)
turned true x y = refl
turned false x y = refl

pub returns : goal.returns
returns c =
    let e = c.args.self.now in
    on_ok_weaker c.write_line.result (λ written. record {
      layout = refl;
      meets = λ s m. looked_meets e.layout e.seats c.is_flushed-is_flushed.new.self e.tally s m (c.is_flushed-is_flushed.ensures e.layout s.history m.seated).0;
      lines = λ s m few. written
          ∙ ap (λ x. string_bytes c.args.out.now ++ line x)
          (c.either.ensures.chosen ∙ (ap (λ b. if b then codes "true" else codes "false") (c.is_flushed-is_flushed.ensures e.layout s.history m.seated).1
          ∙ turned _ (codes "true") (codes "false")));
      room = λ s m. omega arith;
    }) c.write_line.ensures.written
