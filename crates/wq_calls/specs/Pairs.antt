-- What a clause sees of an owner and a sender in one seat.
use Rattle.std.specs.Prelude.{◌≡◌, ℕ, List, [], ◌∷◌}
use Rattle.wq_words.specs.declared.layout.Layout.{Layout}
use Rattle.wq_words.specs.declared.event.Event.{Event}
use Rattle.wq_words.specs.Seen.{owner_seat}
use Rattle.wq_table.specs.SlotChairs.{standing_of, part_in}
use Rattle.wq_calls.specs.declared.owner_seat.OwnerSeat.{OwnerSeat}
use Rattle.wq_calls.specs.declared.sent.Sent.{Sent}
use Rattle.wq_calls.specs.Known.{QueueId, Known}
use Rattle.wq_calls.specs.Sits.{sending_in, Sends}
use Rattle.wq_calls.specs.Hands.{OwnsSeat}

-- which queue it is of, how large that is, its sender's number, and the history that both have seen
pub record KnownPair : Type 0 where
  pub queue : QueueId
  pub layout : Layout
  pub number : ℕ
  pub seen : List Event

-- its owner, and its sender
abbrev pub pair_owner : KnownPair → Known
pair_owner p = record { queue = p.queue; layout = p.layout; number = owner_seat; seen = p.seen }

abbrev pub pair_sender : KnownPair → Known
pair_sender p = record { queue = p.queue; layout = p.layout; number = p.number; seen = p.seen }

-- what an owner's seat and a sender's part of it are seen as
abbrev pub seats_view : {V : Type 0} → OwnerSeat V → Sent → KnownPair
seats_view seat sent = record { queue = seat.chair.queue; layout = seat.layout; number = sent.number; seen = seat.chair.first.part.seen }

-- the first part of the chair is the owner's, and the second the sender's, and both have seen the same
pub record AreSeated {V : Type 0} (seat : OwnerSeat V) (sent : Sent) : Type 0 where
  pub owns : OwnsSeat seat
  pub sends : Sends (sending_in 1 seat.chair sent)
  pub two : (standing_of seat.chair).others ≡ part_in 1 seat.chair ∷ []
  pub one_layout : sent.layout ≡ seat.layout
  pub one_seen : (part_in 1 seat.chair).seen ≡ seat.chair.first.part.seen
