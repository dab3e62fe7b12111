use Rattle.std.proofs.Common.{◌≡◌}
use Rattle.test_programs.proofs.pool.owing.work_whole.Given as goal

abbrev pub invariant-loop : goal.invariant-loop
invariant-loop g l = l.turn.slots ≡ l.initial.turn.slots
