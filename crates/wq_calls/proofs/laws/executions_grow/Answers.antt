use Rattle.wq_calls.proofs.OwnerStays.{begun_grows, ended_grows, still_running}
use Rattle.wq_calls.proofs.laws.executions_grow.Goals as goal

pub returns : goal.returns
returns c = record { begun = begun_grows; ended = ended_grows; running = still_running }
