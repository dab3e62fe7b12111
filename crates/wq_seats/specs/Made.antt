-- How seats are taken and given up.
use Rattle.std.specs.Prelude.{◌≡◌, ℕ, [], ◌∷◌, ◌++◌, Result, Ok, Err}
use Rattle.wq_words.specs.Limits.{AreInLimits, IsFirstOutOfLimits}
use Rattle.wq_words.specs.Legal.{IsComplete}
use Rattle.wq_live.specs.Known.{new_owner, new_senders}
use Rattle.wq_seats.specs.declared.error.SeatError.{SeatError}
use Rattle.wq_seats.specs.declared.error.SeatError.TheVariants as error
use Rattle.wq_seats.specs.declared.seat.Seat.{Seat}
use Rattle.wq_seats.specs.declared.seat.Seat.TheVariants as seat

-- it is nobody's
abbrev pub IsVacant : Seat → Type 0
IsVacant seat.Vacant = Unit {0}
IsVacant (seat.Sender it) = ⊥
IsVacant (seat.Owner it left) = ⊥

-- it is an owner's
abbrev pub IsOwners : Seat → Type 0
IsOwners seat.Vacant = ⊥
IsOwners (seat.Sender it) = ⊥
IsOwners (seat.Owner it left) = Unit {0}

-- it is the owner's of a new queue of this size, with all of its senders
abbrev pub IsBuilt : ℕ → ℕ → ℕ → Seat → Type 0
IsBuilt items barriers senders (seat.Owner it left) =
    (it ≡ new_owner it.queue it.layout) × (left.items ≡ new_senders it.queue it.layout senders)
    × (it.layout.items ≡ items) × (it.layout.barriers ≡ barriers) × (it.layout.senders ≡ senders)
IsBuilt items barriers senders seat.Vacant = ⊥
IsBuilt items barriers senders (seat.Sender it) = ⊥

-- why no queue was built
abbrev pub IsBuildError : ℕ → ℕ → ℕ → Seat → SeatError → Type 0
IsBuildError items barriers senders old error.InUse = ¬ IsVacant old
IsBuildError items barriers senders old (error.Layout which) = IsVacant old × IsFirstOutOfLimits items barriers senders which
IsBuildError items barriers senders old error.Memory = IsVacant old × AreInLimits items barriers senders
IsBuildError items barriers senders old _ = ⊥

abbrev pub DidBuild : ℕ → ℕ → ℕ → Result (Unit {0}) SeatError → Seat → Seat → Type 0
DidBuild items barriers senders (Ok _) old new = IsVacant old × IsBuilt items barriers senders new
DidBuild items barriers senders (Err error) old new = IsBuildError items barriers senders old error × (new ≡ old)

-- the last of the senders that were left to the owner went to the other seat, and the owner is as it was
abbrev pub GivesLast : Seat → Seat → Seat → Type 0
GivesLast (seat.Owner old left) (seat.Owner new left_now) (seat.Sender it) = (new ≡ old) × (left.items ≡ left_now.items ++ it ∷ [])
GivesLast _ _ _ = ⊥

-- no sender is left to the owner
abbrev pub HasNoneLeftToGive : Seat → Type 0
HasNoneLeftToGive (seat.Owner it left) = left.items ≡ []
HasNoneLeftToGive _ = ⊥

-- why no sender was handed out to the other seat
abbrev pub IsHandOutError : Seat → Seat → SeatError → Type 0
IsHandOutError old other error.InUse = ¬ IsVacant other
IsHandOutError old other error.NotOwner = IsVacant other × (¬ IsOwners old)
IsHandOutError old other error.NoSender = IsVacant other × HasNoneLeftToGive old
IsHandOutError old other _ = ⊥

abbrev pub DidHandOut : Result (Unit {0}) SeatError → Seat → Seat → Seat → Seat → Type 0
DidHandOut (Ok _) old other new other_now = IsVacant other × GivesLast old new other_now
DidHandOut (Err error) old other new other_now = IsHandOutError old other error × (new ≡ old) × (other_now ≡ other)

-- an owner's queue has run to its end; any other seat may go at any time
abbrev pub MayGo : Seat → Type 0
MayGo (seat.Owner it left) = IsComplete it.seen
MayGo _ = Unit {0}

abbrev pub DidRelease : Result (Unit {0}) SeatError → Seat → Seat → Type 0
DidRelease (Ok _) old new = MayGo old × (new ≡ seat.Vacant)
DidRelease (Err error.NotDone) old new = (¬ MayGo old) × (new ≡ old)
DidRelease (Err _) old new = ⊥
