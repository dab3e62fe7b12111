-- The owner's batch: what was taken and has not begun, oldest first.
use Rattle.std.specs.Prelude.{◌≡◌, ℕ, List, [], ◌∷◌, ◌++◌, length, take, drop, Option, slice_get}
use Rattle.wq_words.specs.declared.event.Event.{Event}
use Rattle.wq_words.specs.History.{accepted, begun, unbegun, taken, fresh}
use Rattle.wq_words.specs.Seen.{owner_seat, own}

-- the part of what was accepted from the place after all that has begun up to the place after all that was taken
abbrev pub batch : List Event → List ℕ
batch h = drop (length (begun h)) (take (taken h) (accepted h))

-- the oldest number that was taken and has not begun
abbrev pub next_of : List Event → Option ℕ
next_of h = slice_get (batch h) 0

-- The owner's last event is this Take, Drain or Close. It found so many pushed since the last Take, Drain or Resume before it,
-- and left as the batch all that had been accepted by then and had not begun.
pub record TakesAll (e : Event) (count : ℕ) (h : List Event) : Type 0 where
  pub before : List Event
  pub after : List Event
  pub is : h ≡ before ++ e ∷ after
  pub last : own owner_seat after ≡ []
  pub count_is : count ≡ fresh before
  pub batch_is : batch h ≡ unbegun before
