use Rattle.std.proofs.lemmas.Result.{on_ok_weaker}
use Rattle.wq_script.proofs.Common.{◌∙◌, ◌++◌, ap, refl, arith, string_bytes, length-append, close_text, line, close_events, close_few}
use Rattle.wq_script.proofs.Meetings.{close_meets}
use Rattle.wq_script.proofs.engine.Engine.close.Goals as goal

pub returns : goal.returns
returns c =
    let e = c.args.self.now in
    on_ok_weaker c.write_close.result (λ written. record {
      layout = refl;
      meets = λ s m. close_meets e.layout e.seats c.close-taken.new.self e.tally s m (c.close-taken.ensures e.layout s.history m.seated).0;
      lines = λ s m few. written
          ∙ ap (λ x. string_bytes c.args.out.now ++ line (close_text x)) (c.close-taken.ensures e.layout s.history m.seated).1;
      room = λ s m. omega (arith, length-append s.history (close_events s.history), close_few s.history);
    }) c.write_close.ensures.written
