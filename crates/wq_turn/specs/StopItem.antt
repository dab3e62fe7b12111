-- What a worker has noted of its stop item.
use Rattle.std.specs.Prelude.{Contains}
use Rattle.wq_words.specs.Numbers.{stop_number}
use Rattle.wq_words.specs.History.{ended}
use Rattle.wq_worker.specs.State.{WorkerState}
use Rattle.wq_turn.specs.declared.noted.StopItem.{StopItem}
use Rattle.wq_turn.specs.declared.noted.StopItem.TheVariants.{Waits, Ran, Counted}

abbrev pub HasSeenStop : StopItem → Type 0
HasSeenStop Waits = ⊥
HasSeenStop Ran = Unit {0}
HasSeenStop Counted = Unit {0}

-- where it was noted, it is among what has ended
abbrev pub IsNoted : {W : Type 0} → StopItem → WorkerState W → Type 0
IsNoted s w = HasSeenStop s → Contains (ended w.seen) (stop_number w.layout)
