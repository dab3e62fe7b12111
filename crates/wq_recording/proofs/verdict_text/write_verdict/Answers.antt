use Rattle.std.proofs.Common.{codes, string_bytes, length, ap, ◌∙◌, ◌++◌}
use Rattle.std.proofs.lemmas.Result.{on_ok_weaker}
use Rattle.wq_meaning.specs.Names.{row_text}
use Rattle.wq_recording.specs.VerdictText.{verdict_head}
use Rattle.wq_recording.proofs.Writing.{three_written}
use Rattle.wq_recording.proofs.verdict_text.write_verdict.Goals as goal

pub returns : goal.returns
returns g c = on_ok_weaker c.write_row.result (λ last h after.
    let layout = c.args.layout.now in
    let head = c.in_ok-write_head.ensures (length h) (c.told_count.ensures.counted h after) in
    let numbers = c.deref.ensures.value ∙ c.in_ok-numbers.ensures.left h after in
    three_written _ _ _ _ _ _ _ (head ∙ ap (λ w. string_bytes c.args.out.now ++ verdict_head w layout (length h) c.args.violation) c.word.ensures)
    (c.in_ok-write_counts.ensures.written h after) (last ∙ ap (λ ns. string_bytes c.write_counts.new.out ++ row_text layout (codes "left") ns) numbers))
    c.write_row.ensures.written
