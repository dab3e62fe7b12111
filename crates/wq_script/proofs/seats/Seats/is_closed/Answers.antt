use Rattle.wq_script.proofs.Common.{◌∙◌}
use Rattle.wq_script.proofs.Asked.{worker_closed}
use Rattle.wq_script.proofs.seats.Seats.is_closed.Goals as goal

pub returns : goal.returns
returns c = λ layout h g. c.is_closed.ensures.closed ∙ worker_closed layout c.args.self.now h g
