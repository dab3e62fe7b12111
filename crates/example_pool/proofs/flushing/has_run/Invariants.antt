use Rattle.std.specs.Prelude.{[]}
use Rattle.wq_live.specs.Known.{Sees}
use Rattle.example_pool.proofs.flushing.has_run.Given as goal

abbrev pub invariant-loop : goal.invariant-loop
invariant-loop l = Sees [] 0 l.fn.sender l.sender
