use Rattle.wq_calls.proofs.OwnBrought.{own_stays}
use Rattle.wq_values.proofs.value_sender.ValueSender.is_pending.Goals as goal

pub returns-clause-own_values : goal.returns-clause-own_values
returns-clause-own_values g c = own_stays 0 c.args.self.now _ c.is_number_pending.ensures.seen c.is_number_pending.ensures.learnt
