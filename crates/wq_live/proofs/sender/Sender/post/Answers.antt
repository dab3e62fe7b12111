use Rattle.wq_calls.proofs.Held.{contended_held, draining_held, posted_held, posted_stops, posted_unheld}
use Rattle.wq_live.proofs.sender.Sender.post.Goals as goal

pub returns-clause-held : goal.returns-clause-held
returns-clause-held c = λ is. contended_held c.args.item c.args.tries c.push_tries.result c.args.self.now c.push_tries.new.self c.push_tries.ensures is
    c.requires.held

pub returns-clause-still_held : goal.returns-clause-still_held
returns-clause-still_held c = λ is. draining_held c.args.item c.args.tries c.push_tries.result c.args.self.now c.push_tries.new.self c.push_tries.ensures is
    c.requires.held

pub returns-clause-keeps : goal.returns-clause-keeps
returns-clause-keeps c = λ k. posted_held k c.args.item c.args.tries c.push_tries.result c.args.self.now c.push_tries.new.self c.push_tries.ensures

pub returns-clause-gone : goal.returns-clause-gone
returns-clause-gone c = posted_stops c.args.item c.args.tries c.push_tries.result c.args.self.now c.push_tries.new.self c.push_tries.ensures

pub returns-clause-unheld : goal.returns-clause-unheld
returns-clause-unheld c = λ k. posted_unheld k c.args.item c.args.tries c.push_tries.result c.args.self.now c.push_tries.new.self c.push_tries.ensures
