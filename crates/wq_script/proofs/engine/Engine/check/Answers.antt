use Rattle.std.proofs.lemmas.Result.{on_ok_weaker}
use Rattle.wq_script.proofs.Common.{◌∙◌, ◌++◌, ap, refl, arith, string_bytes, if◌then◌else◌, codes, line}
use Rattle.wq_script.proofs.Meetings.{looked_meets}
use Rattle.wq_script.proofs.engine.Engine.check.Goals as goal

pub returns : goal.returns
returns c =
    let e = c.args.self.now in
    on_ok_weaker c.write_line.result (λ written. record {
      layout = refl;
      meets = λ s m. looked_meets e.layout e.seats c.is_pending-is_pending.new.self e.tally s m (c.is_pending-is_pending.ensures e.layout s.history m.seated).0;
      lines = λ s m few. written
          ∙ ap (λ x. string_bytes c.args.out.now ++ line x)
          (c.either.ensures.chosen ∙ ap (λ b. if b then codes "pending" else codes "idle") (c.is_pending-is_pending.ensures e.layout s.history m.seated).1);
      room = λ s m. omega arith;
    }) c.write_line.ensures.written
