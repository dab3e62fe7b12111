-- What a sender's and an owner's fields are to a clause where items bring values, and how a queueing ends.
use Rattle.std.specs.Prelude.{◌≡◌, ℕ, Some}
use Rattle.atomic_table.specs.Table.{rest}
use Rattle.wq_words.specs.declared.answer.Posted.{Posted}
use Rattle.wq_words.specs.declared.answer.Posted.TheVariants as posted
use Rattle.wq_words.specs.History.{accepted}
use Rattle.wq_words.specs.Valued.{AreBrought}
use Rattle.wq_table.specs.SlotSteps.{in_front}
use Rattle.wq_table.specs.SlotChairs.{ValueStanding, HasValue}
use Rattle.wq_calls.specs.declared.sent.Sent.{Sent}
use Rattle.wq_calls.specs.declared.owner_seat.OwnerSeat.{OwnerSeat}
use Rattle.wq_calls.specs.declared.value_answer.ValueAnswer.{ValueAnswer}
use Rattle.wq_calls.specs.declared.value_answer.ValueAnswer.TheVariants as value
use Rattle.wq_calls.specs.Sits.{sending_in, sender_view, owning, owner_view}
use Rattle.wq_calls.specs.KnownWith.{KnownWith}

abbrev pub sender_with : {V : Type 0} → ℕ → ValueStanding V → Sent → KnownWith V
sender_with at it sent = record { known = sender_view (sending_in at it sent); brought = it.first.brought }

abbrev pub owner_with : {V : Type 0} → OwnerSeat V → KnownWith V
owner_with s = record { known = owner_view (owning s); brought = s.chair.first.brought }

-- the slot of k is in front, with a value in it, where tries did not push it
abbrev pub IsFilledAfter : {V : Type 0} → Posted → ℕ → ValueStanding V → Type 0
IsFilledAfter (posted.Queued is_first is_waking) k it = Unit {0}
IsFilledAfter {V} _ k it = (v : V) × HasValue k (Some v) it.hand

-- the value that lay in the slot in front comes back
abbrev pub Returns : {V : Type 0} → ValueAnswer V → ValueStanding V → Type 0
Returns (value.Queued is_first is_waking) it = ⊥
Returns (value.Pending v) it = in_front it.hand ≡ Some v
Returns (value.Closed v) it = in_front it.hand ≡ Some v
Returns (value.Contended v) it = in_front it.hand ≡ Some v
Returns (value.Draining v) it = in_front it.hand ≡ Some v

-- a queueing after such tries: an item that was not pushed is given back, and the value that lay in its slot comes back
abbrev pub SettlesValue : {V : Type 0} → Posted → ValueAnswer V → ValueStanding V → ValueStanding V → Type 0
SettlesValue (posted.Queued is_first is_waking) a old new = new ≡ old
SettlesValue _ a old new = (new.hand ≡ rest old.hand) × Returns a old

-- the chair's seat was told what each accepted number brought that it has seen: an item a value, and no other number
abbrev pub AreKnown : {V : Type 0} → ValueStanding V → Type 0
AreKnown it = AreBrought it.first.part.layout.items (accepted it.first.part.seen) it.first.brought
