use Rattle.wq_race.proofs.Queueing.{queued_one}
use Rattle.wq_race.proofs.race.queue_item.Goals as goal

pub returns-in-Queued-true-default : goal.returns-in-Queued-true-default
returns-in-Queued-true-default g c =
    record { queued = queued_one c.args.item c.queue.result c.args.sender.now c.queue.new.self c.queue.ensures.answer c.queue.ensures.settled }

pub returns : goal.returns
returns g c =
    record { queued = queued_one c.args.item c.queue.result c.args.sender.now c.queue.new.self c.queue.ensures.answer c.queue.ensures.settled }

pub returns-else-queue : goal.returns-else-queue
returns-else-queue g c =
    record { queued = queued_one c.args.item c.queue.result c.args.sender.now c.queue.new.self c.queue.ensures.answer c.queue.ensures.settled }
