-- What a call that wants a sender's seat, or the owner's, did or told.
use Rattle.std.specs.Prelude.{◌≡◌, Result, Err}
use Rattle.wq_live.specs.Known.{Known}
use Rattle.wq_seats.specs.declared.error.SeatError.{SeatError}
use Rattle.wq_seats.specs.declared.error.SeatError.TheVariants as error
use Rattle.wq_seats.specs.declared.seat.Seat.{Seat}
use Rattle.wq_seats.specs.declared.seat.Seat.TheVariants as seat

-- A sender's seat stays one and did this. Any other seat was refused, and is as it was.
abbrev pub BySender : {A : Type 0} → (Result A SeatError → Known → Known → Type 0) → Result A SeatError → Seat → Seat → Type 0
BySender did said (seat.Sender old) (seat.Sender new) = did said old new
BySender did said (seat.Sender old) seat.Vacant = ⊥
BySender did said (seat.Sender old) (seat.Owner new left) = ⊥
BySender did said seat.Vacant now = (said ≡ Err error.NotSender) × (now ≡ seat.Vacant)
BySender did said (seat.Owner old left) now = (said ≡ Err error.NotSender) × (now ≡ seat.Owner old left)

-- An owner's seat stays one, with the senders that are left to hand out, and did this. Any other seat was refused, and is as it was.
abbrev pub ByOwner : {A : Type 0} → (Result A SeatError → Known → Known → Type 0) → Result A SeatError → Seat → Seat → Type 0
ByOwner did said (seat.Owner old left) (seat.Owner new left_now) = did said old new × (left_now ≡ left)
ByOwner did said (seat.Owner old left) seat.Vacant = ⊥
ByOwner did said (seat.Owner old left) (seat.Sender new) = ⊥
ByOwner did said seat.Vacant now = (said ≡ Err error.NotOwner) × (now ≡ seat.Vacant)
ByOwner did said (seat.Sender old) now = (said ≡ Err error.NotOwner) × (now ≡ seat.Sender old)

-- A sender told this. Any other seat was refused.
abbrev pub OfSender : {A : Type 0} → (Result A SeatError → Known → Type 0) → Result A SeatError → Seat → Type 0
OfSender tells said (seat.Sender it) = tells said it
OfSender tells said seat.Vacant = said ≡ Err error.NotSender
OfSender tells said (seat.Owner it left) = said ≡ Err error.NotSender

-- An owner told this. Any other seat was refused.
abbrev pub OfOwner : {A : Type 0} → (Result A SeatError → Known → Type 0) → Result A SeatError → Seat → Type 0
OfOwner tells said (seat.Owner it left) = tells said it
OfOwner tells said seat.Vacant = said ≡ Err error.NotOwner
OfOwner tells said (seat.Sender it) = said ≡ Err error.NotOwner
