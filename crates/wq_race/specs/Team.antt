-- The seats of a plan's queue.
use Rattle.std.specs.Prelude.{◌≡◌, ◌+◌, []}
use Rattle.wq_words.specs.Legal.{IsLegal}
use Rattle.wq_words.specs.Seen.{owner_seat, own}
use Rattle.wq_live.specs.Known.{new_sender, new_senders}
use Rattle.wq_plan.specs.Plan.{IsLayoutOf}
use Rattle.wq_plan.specs.declared.plan.Plan.{Plan}
use Rattle.wq_race.specs.declared.team.Team.{Team}

-- The plan's senders by number, the worker's and the program's, all of one new queue of the plan's size. The senders have
-- seen nothing, neither of the worker's seats has made an event, and its work has run nothing.
pub record IsNewTeam (plan : Plan) (team : Team) : Type 0 where
  pub layout : IsLayoutOf plan.senders plan.own team.worker.layout
  pub senders_are : team.senders.items ≡ new_senders team.worker.queue team.worker.layout plan.senders
  pub number_is : team.worker.number ≡ plan.senders
  pub program_is : team.program ≡ new_sender team.worker.queue team.worker.layout (plan.senders + 1)
  pub untouched : own owner_seat team.worker.seen ≡ []
  pub unsent : own team.worker.number team.worker.seen ≡ []
  pub unrun : team.worker.work.ran.items ≡ []
  pub legal : IsLegal team.worker.layout team.worker.seen
