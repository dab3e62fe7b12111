use Rattle.wq_script.proofs.Common.{sym, ◌∙◌}
use Rattle.wq_script.proofs.Asked.{worker_closes, closed_already}
use Rattle.wq_script.proofs.seats.Seats.close.Goals as goal

pub returns-then-is_closed : goal.returns-then-is_closed
returns-then-is_closed c = λ layout h g. closed_already layout c.args.self.now h g (sym c.is_closed.ensures.closed ∙ c.if-is_closed.true)

pub returns : goal.returns
returns c = λ layout h g. worker_closes layout c.args.self.now c.publish_worker.new.self h c.close-taken.new.self c.close-taken.result g
    (sym c.is_closed.ensures.closed ∙ c.if-is_closed.false)
    c.close-taken.ensures.events c.close-taken.ensures.work.0 c.close-taken.ensures.work.1 c.close-taken.ensures.takes c.publish_worker.ensures
