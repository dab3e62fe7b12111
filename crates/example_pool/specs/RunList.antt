-- What a worker of this pool does.
use Rattle.std.specs.Prelude.{◌≡◌, []}
use Rattle.wq_worker.specs.State.{WorkerState}
use Rattle.wq_worker.specs.Works.{WorksInStep}
use Rattle.example_pool.specs.declared.work.RunList.{RunList}

-- what one step of a worker does, whose work asks for no item
abbrev pub RunsInStep : WorkerState RunList → WorkerState RunList → Type 0
RunsInStep = WorksInStep (λ w k follow v. follow ≡ [])
