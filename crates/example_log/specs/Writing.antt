-- What the worker of a log does.
use Rattle.std.specs.Prelude.{◌≡◌, []}
use Rattle.wq_value_pool.specs.ValueState.{ValueWorkerState}
use Rattle.wq_value_worker.specs.Deals.{DealsInStep}
use Rattle.example_log.specs.Text.{Line, WriterState}

-- a step of a log's worker, whose work asks for nothing
abbrev pub WritesInStep : ValueWorkerState Line WriterState → ValueWorkerState Line WriterState → Type 0
WritesInStep = DealsInStep (λ w. w.came_back) (λ w k line pairs u. pairs ≡ []) (λ w k line u. Unit {0})
