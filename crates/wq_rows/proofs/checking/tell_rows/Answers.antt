use Rattle.std.proofs.Common.{arith, take, ◌∙◌}
use Rattle.wq_rows.proofs.Growing.{read_more, legal_all, first_error}
use Rattle.wq_rows.proofs.checking.tell_rows.Goals as goal

pub returns-in-Err : goal.returns-in-Err
returns-in-Err c =
    let i = c.loop-place.invariant in let place = c.loop-place.place in let rows = c.args.rows.now in
    first_error _ rows place c.loop-place.checker i.layout _ c.in-Err.error (omega arith) i.read (c.in-Err.ensures.refused (take place rows) i.read)

pub loop-place-preserved : goal.loop-place-preserved
loop-place-preserved c =
    let i = c.loop-place.invariant in let place = c.loop-place.place in let rows = c.args.rows.now in
    record {
      read = read_more rows place _ _ (omega arith) (c.in_default.ensures.told (take place rows) i.read);
      layout = c.tell_row.ensures.layout ∙ i.layout;
    }

pub returns : goal.returns
returns c =
    let i = c.loop-place.invariant in legal_all _ c.args.rows.now c.loop-place.place c.loop-place.checker i.layout (omega arith) i.read
