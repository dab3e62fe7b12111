use Rattle.std.proofs.Common.{vec_len, vec_capacity}
use Rattle.wq_pool_plan.proofs.Common.{◌≡◌, ℕ, ◌+◌, ◌<◌, ◌≤◌, length, get_or, All, PromisedHandle, IsCallerOf, Group, QueuesGroup}
use Rattle.wq_pool_plan.proofs.race.start_groups.Given as goal

-- a handle for each group so far, room for one of each, and a caller for each of the others
abbrev pub invariant-loop-group : goal.invariant-loop-group
invariant-loop-group g l = record {
  count : length l.handles.items ≡ length l.yielded;
  room : vec_len l.fn.groups ≤ vec_capacity l.handles;
  given : (i : ℕ) (d : PromisedHandle Group QueuesGroup) (e : Group) → i < length l.handles.items
      → ((get_or l.handles.items i d).promise.group.value ≡ get_or l.fn.groups.items i e) × ((get_or l.handles.items i d).promise.own ≡ l.fn.own);
  callers : All (IsCallerOf l.pool.ready) l.callers.items;
  enough : length l.fn.groups.items ≤ length l.callers.items + length l.yielded;
}
