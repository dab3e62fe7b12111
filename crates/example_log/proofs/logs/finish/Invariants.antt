use Rattle.std.specs.Prelude.{◌≡◌}
use Rattle.example_log.proofs.logs.finish.Given as goal

abbrev pub invariant-loop : goal.invariant-loop
invariant-loop g l = l.pool ≡ l.fn.pool
