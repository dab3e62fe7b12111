-- What a worker has queued of its own from when it is handed in: nothing.
use Rattle.std.specs.Prelude.{◌≡◌, ℕ, ◌<◌, List, []}
use Rattle.wq_words.specs.declared.event.Event.{Event}
use Rattle.wq_words.specs.History.{accepted, IsRunning}
use Rattle.wq_words.specs.Seen.{own, owner_seat}
use Rattle.wq_worker.specs.State.{WorkerState}

-- sender s is the worker's, nothing runs, and its two seats, that sender and the owner, have made no event
pub record IsUnused {W : Type 0} (s : ℕ) (w : WorkerState W) : Type 0 where
  pub number_is : w.number ≡ s
  pub low : s < w.layout.senders
  pub idle : ¬ IsRunning w.seen
  pub unsent : own s w.seen ≡ []
  pub unowned : own owner_seat w.seen ≡ []

-- no number was accepted of sender s and of the owner
abbrev pub IsQuiet : ℕ → List Event → Type 0
IsQuiet s h = (accepted (own s h) ≡ []) × (accepted (own owner_seat h) ≡ [])
