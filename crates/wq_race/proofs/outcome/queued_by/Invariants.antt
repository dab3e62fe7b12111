use Rattle.wq_race.proofs.Common.{◌≡◌, ◌*◌, ◌-◌, ◌^◌, ◌≤◌, take, queued_sum}
use Rattle.wq_race.proofs.outcome.queued_by.Given as goal

-- what the senders so far queued
abbrev pub invariant-loop-sender : goal.invariant-loop-sender
invariant-loop-sender l = (l.queued ≡ queued_sum (take l.sender-index l.fn.senders)) × (l.queued ≤ l.sender-index * (2 ^ 64 - 1))
