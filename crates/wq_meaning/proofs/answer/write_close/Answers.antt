use Rattle.std.specs.Prelude.{OnOk}
use Rattle.wq_meaning.proofs.Common.{◌≡◌, ℕ, ◌++◌, Option, sym, subst, string_bytes}
use Rattle.wq_meaning.specs.Answer.{close_text}
use Rattle.wq_meaning.specs.Report.{line}
use Rattle.wq_meaning.proofs.answer.write_close.Goals as goal

pub returns-in-None : goal.returns-in-None
returns-in-None c =
    let P : Option ℕ → Type 0 =
    λ t. OnOk c.write_line.result (string_bytes c.write_line.new.out ≡ string_bytes c.args.out.now ++ line (close_text t)) in
    record { written = subst P (sym c.in-None.is) c.write_line.ensures.written }
