use Rattle.std.proofs.lemmas.Result.{on_ok_weaker}
use Rattle.wq_script.proofs.Common.{◌∙◌, ◌++◌, ap, refl, arith, string_bytes, report_text}
use Rattle.wq_script.proofs.engine.Engine.report.Goals as goal

pub returns : goal.returns
returns c = on_ok_weaker c.write.result (λ written. record {
  layout = refl;
  meets = λ s m. m;
  lines = λ s m few. written ∙ ap (λ x. string_bytes c.args.out.now ++ report_text x) (c.counts.ensures s m (omega (arith, few)));
  room = λ s m. omega arith;
}) c.write.ensures.written
