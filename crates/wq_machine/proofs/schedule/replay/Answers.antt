use Rattle.std.proofs.Common.{inr}
use Rattle.wq_words.proofs.Headlines.{keeps_headline}
use Rattle.wq_machine.proofs.Schedules.{legal_leaves}
use Rattle.wq_machine.proofs.schedule.replay.Goals as goal

pub returns-in-Ok-replay_on-clause-legal : goal.returns-in-Ok-replay_on-clause-legal
returns-in-Ok-replay_on-clause-legal c = legal_leaves c.args.layout _ c.replay_on.new.core (rw c.in-Ok.ensures.opening at c.in-Ok-replay_on.ensures.leads)

pub returns-in-Ok-replay_on-clause-headline : goal.returns-in-Ok-replay_on-clause-headline
returns-in-Ok-replay_on-clause-headline c =
    keeps_headline c.args.layout _ (legal_leaves c.args.layout _ c.replay_on.new.core (rw c.in-Ok.ensures.opening at c.in-Ok-replay_on.ensures.leads))

pub returns-in-Err-replay_on-clause-refused : goal.returns-in-Err-replay_on-clause-refused
returns-in-Err-replay_on-clause-refused c = inr (c.replay_on.new.core, rw c.in-Ok.ensures.opening at c.in-Err-replay_on.ensures.stops)
