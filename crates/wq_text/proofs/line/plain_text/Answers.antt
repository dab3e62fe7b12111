use Rattle.std.proofs.Common.{sym, ◌∙◌}
use Rattle.wq_text.proofs.LineWords.{plain_read}
use Rattle.wq_text.proofs.line.plain_text.Goals as goal

pub returns-then-is_plain_line : goal.returns-then-is_plain_line
returns-then-is_plain_line c =
    rw c.ok.ensures.value (plain_read c.args.line.now c.from_utf8.result (sym c.is_plain_line.ensures ∙ c.if-is_plain_line.true) c.from_utf8.ensures.cases)
