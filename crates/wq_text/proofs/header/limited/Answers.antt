use Rattle.wq_text.proofs.Limited.{limited_ok, limited_err}
use Rattle.wq_text.proofs.header.limited.Goals as goal

pub returns-in-Ok-clause-exact : goal.returns-in-Ok-clause-exact
returns-in-Ok-clause-exact c =
    limited_ok c.args.kind c.in-Ok.layout c.args.items c.args.barriers c.args.senders c.in-Ok.ensures.ok.0 c.in-Ok.ensures.ok.1 c.in-Ok.ensures.ok.2

pub returns-in-Err-clause-exact : goal.returns-in-Err-clause-exact
returns-in-Err-clause-exact c = limited_err c.args.kind c.args.items c.args.barriers c.args.senders c.in-Err.field-0 c.in-Err.ensures.refused
