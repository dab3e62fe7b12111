use Rattle.wq_race.proofs.Common.{◌≡◌, ℕ, ◌<◌, ◌≤◌, get_or, Known, HasMet, IsKnown}
use Rattle.wq_race.proofs.outcome.meet_senders.Given as goal

-- the worker knows those before the index, and the others are as they were
abbrev pub invariant-loop-sender : goal.invariant-loop-sender
invariant-loop-sender l = record {
  worker : HasMet l.fn.worker l.worker;
  each : (i : ℕ) (d : Known) → i < l.sender-index → IsKnown l.worker.seen (get_or l.fn.senders.items i d) (get_or l.sender-items i d);
  rest : (i : ℕ) (d : Known) → l.sender-index ≤ i → get_or l.sender-items i d ≡ get_or l.fn.senders.items i d;
}
