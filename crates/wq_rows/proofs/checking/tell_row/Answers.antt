use Rattle.std.proofs.Common.{[], ◌∷◌, ◌++◌}
use Rattle.wq_rows.proofs.Growing.{rows_push}
use Rattle.wq_rows.proofs.checking.tell_row.Goals as goal

pub returns-in-Ok-clause-told : goal.returns-in-Ok-clause-told
returns-in-Ok-clause-told c rows read = record {
  events = read.events ++ c.in-Some.event ∷ [];
  are = rows_push rows read.events c.args.row c.in-Some.event read.are c.in-Some.ensures.read;
  after = c.in-Ok.ensures.told read.events read.after;
}
