use Rattle.wq_worker.specs.Rows.{here}
use Rattle.wq_worker.proofs.Rows.{one_step}
use Rattle.wq_worker.proofs.serving.close_where_unclosed.Goals as goal

pub returns-then-is_closed-clause-deals : goal.returns-then-is_closed-clause-deals
returns-then-is_closed-clause-deals g c = here c.args.station.now

pub returns-clause-deals : goal.returns-clause-deals
returns-clause-deals g c = one_step g.S.Station.deals c.args.station.now c.close.new.self c.close.ensures.deals
