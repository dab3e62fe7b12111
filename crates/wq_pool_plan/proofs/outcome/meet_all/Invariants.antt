use Rattle.wq_pool_plan.proofs.Common.{◌≡◌, ℕ, ◌<◌, ◌≤◌, get_or, Known, HasHeard, IsKnown}
use Rattle.wq_pool_plan.proofs.outcome.meet_all.Given as goal

-- the book knows those before the index, and the others are as they were
abbrev pub invariant-loop-sender : goal.invariant-loop-sender
invariant-loop-sender l = record {
  book : HasHeard l.fn.book l.book;
  each : (i : ℕ) (d : Known) → i < l.sender-index → IsKnown l.book.seen (get_or l.fn.senders.items i d) (get_or l.sender-items i d);
  rest : (i : ℕ) (d : Known) → l.sender-index ≤ i → get_or l.sender-items i d ≡ get_or l.fn.senders.items i d;
}
