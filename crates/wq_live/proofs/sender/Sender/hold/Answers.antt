use Rattle.wq_calls.proofs.Held.{tested_held, tested_unheld, hold_refused}
use Rattle.wq_calls.proofs.Resting.{accepted_tested}
use Rattle.wq_calls.proofs.Sends.{hold_held}
use Rattle.wq_live.proofs.sender.Sender.hold.Goals as goal

pub returns-clause-held : goal.returns-clause-held
returns-clause-held c = hold_held c.args.item c.hold_number.result c.args.self.now c.hold_number.new.self c.hold_number.ensures.seen

pub returns-clause-keeps : goal.returns-clause-keeps
returns-clause-keeps c = λ k. tested_held k c.args.item c.hold_number.result c.args.self.now c.hold_number.new.self c.hold_number.ensures.seen

pub returns-clause-unheld : goal.returns-clause-unheld
returns-clause-unheld c = λ k ne none.
    tested_unheld k c.args.item c.hold_number.result c.args.self.now c.hold_number.new.self c.hold_number.ensures.seen ne none

pub returns-clause-still_unheld : goal.returns-clause-still_unheld
returns-clause-still_unheld c is = λ k.
    hold_refused k c.args.item c.hold_number.result c.args.self.now c.hold_number.new.self c.hold_number.ensures.seen is

pub returns-clause-unqueued : goal.returns-clause-unqueued
returns-clause-unqueued c = accepted_tested c.args.item c.hold_number.result c.args.self.now c.hold_number.new.self c.hold_number.ensures.seen
