use Rattle.wq_pool_plan.proofs.Common.{◌≡◌, ℕ, ◌<◌, ◌≤◌, get_or, IsCallerOf, Known, items_at, HasQueued}
use Rattle.wq_pool_plan.proofs.sending.queue_group.Given as goal

-- the senders before the index have queued their items, and the others are as they were
abbrev pub invariant-loop-sender : goal.invariant-loop-sender
invariant-loop-sender g l = record {
  caller : IsCallerOf l.pool.ready l.caller;
  place : l.queue ≡ l.sender-index;
  each : (i : ℕ) (d e : Known) → i < l.sender-index
      → HasQueued (items_at (get_or l.fn.group.senders.items i d).number l.own) (get_or l.fn.group.senders.items i d) (get_or l.sender-items i e);
  rest : (i : ℕ) (d : Known) → l.sender-index ≤ i → get_or l.sender-items i d ≡ get_or l.fn.group.senders.items i d;
}
