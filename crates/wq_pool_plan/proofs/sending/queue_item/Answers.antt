use Rattle.wq_race.proofs.Queueing.{queued_one}
use Rattle.wq_pool_plan.proofs.sending.queue_item.Goals as goal

pub returns-clause-queued : goal.returns-clause-queued
returns-clause-queued g c = queued_one c.args.item c.queue-answer.result c.args.sender.now c.queue-answer.new.self
    c.queue-answer.ensures.answer c.queue-answer.ensures.settled
