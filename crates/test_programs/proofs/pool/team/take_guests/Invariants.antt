use Rattle.std.specs.Prelude.{All}
use Rattle.wq_ready.specs.Known.{IsCallerOf}
use Rattle.test_programs.proofs.pool.team.take_guests.Given as goal

abbrev pub invariant-loop-turn : goal.invariant-loop-turn
invariant-loop-turn g l = All (IsCallerOf l.pool.ready) l.callers.items
