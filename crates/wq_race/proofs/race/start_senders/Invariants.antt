use Rattle.std.proofs.Common.{vec_len, vec_capacity}
use Rattle.wq_race.proofs.Common.{◌≡◌, ℕ, ◌<◌, ◌≤◌, length, get_or, Sender, Known, PromisedHandle, QueuesOwn}
use Rattle.wq_race.proofs.race.start_senders.Given as goal

-- a handle for each sender so far, and room for one of each
abbrev pub invariant-loop-sender : goal.invariant-loop-sender
invariant-loop-sender g l = record {
  count : length l.handles.items ≡ length l.yielded;
  room : vec_len l.fn.senders ≤ vec_capacity l.handles;
  given : (i : ℕ) (d : PromisedHandle Sender QueuesOwn) (e : Known) → i < length l.handles.items
      → ((get_or l.handles.items i d).promise.sender.value ≡ get_or l.fn.senders.items i e) × ((get_or l.handles.items i d).promise.own ≡ l.fn.own);
}
