-- What the answers of a ready queue mean.
use Rattle.std.specs.Prelude.{◌≡◌, ℕ, [], ◌∷◌, Option, Some, None}
use Rattle.std.specs.declared.result.Result.{Result}
use Rattle.std.specs.declared.result.Result.TheVariants.{Ok, Err}
use Rattle.wq_ready.specs.declared.event.ReadyEvent.TheVariants.{Announce, Pick}
use Rattle.wq_ready.specs.declared.ready_queue.AnnounceError.{AnnounceError}
use Rattle.wq_ready.specs.declared.ready_queue.AnnounceError.TheVariants.{NoQueue, Full}
use Rattle.wq_ready.specs.History.{IsFull, IsEmpty}
use Rattle.wq_ready.specs.Known.{CallerState, CallerSees, CouldBe}

-- an announcement of the queue q
abbrev pub Announces : ℕ → Result (Unit {0}) AnnounceError → CallerState → CallerState → Type 0
Announces q (Ok _) old new = CallerSees (Announce old.number q ∷ []) old new
Announces q (Err NoQueue) old new = new ≡ old
Announces q (Err Full) old new = (new ≡ old) × CouldBe (IsFull old.ready.size.queues) old

-- a pick
abbrev pub Picks : Option ℕ → CallerState → CallerState → Type 0
Picks (Some q) old new = CallerSees (Pick old.number q ∷ []) old new
Picks None old new = (new ≡ old) × CouldBe IsEmpty old
