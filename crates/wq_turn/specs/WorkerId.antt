-- Which worker it is.
use Rattle.wq_worker.specs.State.{WorkerState}
pub use Rattle.wq_turn.specs.declared.worker_id.WorkerId.{WorkerId}

abbrev pub worker_id : {W : Type 0} → WorkerState W → WorkerId
worker_id w = record { queue = w.queue; layout = w.layout; number = w.number; tries = w.tries }
