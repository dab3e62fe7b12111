use Rattle.std.proofs.Common.{refl}
use Rattle.wq_words.specs.declared.event.Why.TheVariants as why
use Rattle.example_log.proofs.Turned.{turned_away}
use Rattle.example_log.proofs.sending.queue.Goals as goal

pub returns-in-Closed-clause-turned_away : goal.returns-in-Closed-clause-turned_away
returns-in-Closed-clause-turned_away g c none =
    turned_away c.args.item why.Closed c.loop.sender.known c.queue_once.new.sender.known refl c.in-Closed.ensures.answer

pub returns-in-Draining-clause-turned_away : goal.returns-in-Draining-clause-turned_away
returns-in-Draining-clause-turned_away g c none =
    turned_away c.args.item why.Draining c.loop.sender.known c.queue_once.new.sender.known refl c.in-Draining.ensures.answer.0
