use Rattle.wq_meaning.proofs.ScheduleLines.{one_output}
use Rattle.wq_meaning.proofs.schedule_output.one_output.Goals as goal

pub returns : goal.returns
returns c = record { unique = one_output }
