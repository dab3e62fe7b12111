use Rattle.wq_script.proofs.FollowLists.{new_meets}
use Rattle.wq_script.proofs.engine.Engine.new.Goals as goal

pub returns-clause-meets : goal.returns-clause-meets
returns-clause-meets c = let n = c.in_ok-new.ensures in new_meets c.args.layout c.in_ok-new.field-0 n.seated n.lists n.table
