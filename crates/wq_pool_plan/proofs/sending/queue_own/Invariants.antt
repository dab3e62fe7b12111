use Rattle.wq_pool_plan.proofs.Common.{◌-◌, range_with_len, IsCallerOf, HasQueued}
use Rattle.wq_pool_plan.proofs.sending.queue_own.Given as goal

-- the items before this one are queued
abbrev pub invariant-loop-item : goal.invariant-loop-item
invariant-loop-item g l = record {
  caller : IsCallerOf l.pool.ready l.caller;
  queued : HasQueued (range_with_len l.first (l.item - l.first)) l.fn.sender l.sender;
}
