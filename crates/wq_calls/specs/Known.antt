-- What a clause sees of a seat, a sender's or the owner's.
use Rattle.std.specs.Prelude.{◌≡◌, ℕ, zero, suc, ◌<◌, List, [], ◌∷◌, ◌++◌, length, get_or}
use Rattle.atomic_table.specs.Seated.{TableId}
use Rattle.wq_words.specs.declared.layout.Layout.{Layout}
use Rattle.wq_words.specs.declared.event.Event.{Event}
use Rattle.wq_words.specs.Legal.{IsLegal}
use Rattle.wq_words.specs.Seen.{owner_seat, Grows}

-- which queue it is
abbrev pub QueueId : Type 0
QueueId = TableId

-- which queue it is of, how large that is, the seat's number (`owner_seat` for the owner), and the history that it has seen
pub record Known : Type 0 where
  pub queue : QueueId
  pub layout : Layout
  pub number : ℕ
  pub seen : List Event

-- it is the same seat
pub record IsSame (old new : Known) : Type 0 where
  pub queue_is : new.queue ≡ old.queue
  pub layout_is : new.layout ≡ old.layout
  pub number_is : new.number ≡ old.number

-- The same seat goes on to see more, and what it has seen is legal. In what came new its own events are just xs, and at
-- least n are of other seats.
pub record Sees (xs : List Event) (n : ℕ) (old new : Known) : Type 0 where
  pub same : IsSame old new
  pub grows : Grows old.number xs n old.seen new.seen
  pub legal : IsLegal new.layout new.seen

-- a sender and an owner of a new queue, and the senders below m
abbrev pub new_sender : QueueId → Layout → ℕ → Known
new_sender queue layout s = record { queue = queue; layout = layout; number = s; seen = [] }

abbrev pub new_owner : QueueId → Layout → Known
new_owner queue layout = record { queue = queue; layout = layout; number = owner_seat; seen = [] }

abbrev pub new_senders : QueueId → Layout → ℕ → List Known
new_senders queue layout zero = []
new_senders queue layout (suc m) = new_senders queue layout m ++ new_sender queue layout m ∷ []

-- each stands at the place of its number
abbrev pub AreNumbered : List Known → Type 0
AreNumbered xs = (k : ℕ) (d : Known) → k < length xs → (get_or xs k d).number ≡ k
