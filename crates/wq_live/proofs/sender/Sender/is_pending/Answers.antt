use Rattle.wq_calls.proofs.Sends.{sees_held}
use Rattle.wq_live.proofs.sender.Sender.is_pending.Goals as goal

pub returns-clause-keeps : goal.returns-clause-keeps
returns-clause-keeps c = λ k. sees_held k 0 c.args.self.now c.is_number_pending.new.self c.is_number_pending.ensures.seen
