use Rattle.wq_rows.proofs.Growing.{checks_of}
use Rattle.wq_rows.proofs.checking.check_rows.Goals as goal

pub returns : goal.returns
returns c = record {
  found = checks_of _ _ _ c.in-Ok.layout _ c.args.rows.now c.tell_rows.result c.in-Ok.ensures.ok c.in-Ok-new.ensures.told.0 c.tell_rows.ensures;
}
