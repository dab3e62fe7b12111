use Rattle.wq_pool_plan.proofs.Common.{◌≡◌, ℕ, ◌<◌, ◌≤◌, get_or, IsCallerOf, Known, HasQueuedStop}
use Rattle.wq_pool_plan.proofs.sending.stop_all.Given as goal

-- the senders before the index have queued the stop item, and the others are as they were
abbrev pub invariant-loop-program : goal.invariant-loop-program
invariant-loop-program g l = record {
  caller : IsCallerOf l.pool.ready l.caller;
  place : l.queue ≡ l.program-index;
  each : (i : ℕ) (d : Known) → i < l.program-index → HasQueuedStop (get_or l.fn.programs.items i d) (get_or l.program-items i d);
  rest : (i : ℕ) (d : Known) → l.program-index ≤ i → get_or l.program-items i d ≡ get_or l.fn.programs.items i d;
}
