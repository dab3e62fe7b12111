use Rattle.wq_script.proofs.Common.{◌≡◌, ℕ, ◌<◌, ◌≤◌, get_or, Known, StaysSilent, Hears, IsSameTable}
use Rattle.wq_script.proofs.seats.meet_each.Given as goal

-- those before the index have heard all that the table's sender had seen at first, and the others are as they were
abbrev pub invariant-loop-sender : goal.invariant-loop-sender
invariant-loop-sender l = record {
  delay : StaysSilent l.fn.delay.sender l.delay.sender;
  table : IsSameTable l.fn.delay l.delay;
  each : (i : ℕ) (d : Known) → i < l.sender-index → Hears l.fn.delay.sender.seen (get_or l.fn.senders.items i d) (get_or l.sender-items i d);
  rest : (i : ℕ) (d : Known) → l.sender-index ≤ i → get_or l.sender-items i d ≡ get_or l.fn.senders.items i d;
}
