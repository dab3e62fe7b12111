-- Whose an event is, and what a seat sees come new.
use Rattle.std.specs.Prelude.{◌≡◌, ℕ, ◌+◌, ◌≤◌, not, ◌==◌, Bool, ◌||◌, List, ◌++◌, length, filter, sum_by}
use Rattle.std.specs.List.{range_with_len}
use Rattle.wq_words.specs.declared.layout.Layout.{Layout}
use Rattle.wq_words.specs.declared.event.Event.{Event}
use Rattle.wq_words.specs.declared.event.Event.TheVariants.{Hold, Busy, Push, Back, Take, Close, Drain, Resume, Begin, End, Chain, ChainBusy, Rest}

-- the owner's seat; a sender's is its number
abbrev pub owner_seat : ℕ
owner_seat = 4294967296

-- whose event it is
abbrev pub seat_of : Event → ℕ
seat_of (Hold s k) = s
seat_of (Busy s k) = s
seat_of (Push s k) = s
seat_of (Back s k why) = s
seat_of Take = owner_seat
seat_of Close = owner_seat
seat_of Drain = owner_seat
seat_of Resume = owner_seat
seat_of (Begin k) = owner_seat
seat_of (End k) = owner_seat
seat_of (Chain k) = owner_seat
seat_of (ChainBusy k) = owner_seat
seat_of Rest = owner_seat

-- the events of the seat c, and those of all others
abbrev pub own : ℕ → List Event → List Event
own c h = filter (λ e. seat_of e == c) h

abbrev pub others : ℕ → List Event → List Event
others c h = filter (λ e. not (seat_of e == c)) h

-- what the seats of a queue have, added up: the owner's, and each sender's
abbrev pub over_seats : Layout → (ℕ → ℕ) → ℕ
over_seats layout part = part owner_seat + sum_by part (range_with_len 0 layout.senders)

-- it is of the seat of sender s, or of the owner's
abbrev pub is_ours : ℕ → Event → Bool
is_ours s e = (seat_of e == s) || (seat_of e == owner_seat)

-- What is seen goes on from v to w. In what came new the events of the seat c are xs, and at least n are of other seats.
pub record Grows (c : ℕ) (xs : List Event) (n : ℕ) (v w : List Event) : Type 0 where
  pub new : List Event
  pub is : w ≡ v ++ new
  pub mine : own c new ≡ xs
  pub theirs : n ≤ length (others c new)
