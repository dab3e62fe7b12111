use Rattle.wq_race.proofs.Common.{◌-◌, range_with_len, HasQueued}
use Rattle.wq_race.proofs.race.queue_own.Given as goal

-- the items before this one are queued
abbrev pub invariant-loop-item : goal.invariant-loop-item
invariant-loop-item g l = HasQueued (range_with_len l.first (l.item - l.first)) l.fn.sender l.sender
