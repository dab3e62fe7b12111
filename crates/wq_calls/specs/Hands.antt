-- What the calls of a seat do with the slots that it has in hand, where its queue has slots.
use Rattle.std.specs.Prelude.{◌≡◌, ℕ, zero, suc, ◌<◌, true, false, Bool, List, [], ◌∷◌, ◌++◌, map, length, slice_get, Option, Some, None}
use Rattle.atomic_table.specs.Table.{rest, turned}
use Rattle.wq_words.specs.History.{accepted, begun}
use Rattle.wq_words.specs.Valued.{Carries}
use Rattle.wq_words.specs.declared.answer.Answer.{Answer}
use Rattle.wq_words.specs.declared.answer.Answer.TheVariants as answer
use Rattle.wq_words.specs.declared.answer.Posted.{Posted}
use Rattle.wq_words.specs.declared.answer.Posted.TheVariants as posted
use Rattle.wq_table.specs.declared.values.ValuePart.{ValuePart}
use Rattle.wq_table.specs.SlotSteps.{Hand, in_front, IsBrought}
use Rattle.wq_table.specs.SlotChairs.{ValueStanding, part_in, HasSlot, HasValue}
use Rattle.wq_calls.specs.Answers.{IsPushed}
use Rattle.wq_calls.specs.Sits.{owning, kept_batch, OwnsQueue, Turned}
use Rattle.wq_calls.specs.declared.owner_seat.OwnerSeat.{OwnerSeat}
use Rattle.wq_calls.specs.declared.row.Row.{Row}

-- the slot of k came in front of the hand, with y in it
pub record Comes {V : Type 0} (k : ℕ) (y : Option V) (old new : ValueStanding V) : Type 0 where
  pub some : 0 < old.queue.slots → new.hand ≡ (k, y) ∷ old.hand
  pub none : old.queue.slots ≡ 0 → new.hand ≡ old.hand

-- the slot in front left the hand
pub record LeavesHand {V : Type 0} (old new : ValueStanding V) : Type 0 where
  pub some : 0 < old.queue.slots → new.hand ≡ rest old.hand
  pub none : old.queue.slots ≡ 0 → new.hand ≡ old.hand

-- a test-and-set of the number k
abbrev pub HoldsSlot : {V : Type 0} → ℕ → Bool → ValueStanding V → ValueStanding V → Type 0
HoldsSlot k true old new = Comes k None old new
HoldsSlot k false old new = new.hand ≡ old.hand

-- the slot of k is in front, and what lies in it is what a push of k may bring
abbrev pub IsToBring : {V : Type 0} → ℕ → ℕ → ValueStanding V → Type 0
IsToBring items k it = 0 < it.queue.slots → HasSlot k it.hand × Carries items k (in_front it.hand)

-- the slot of k is in front, with nothing in it
abbrev pub IsEmptied : {V : Type 0} → ℕ → ValueStanding V → Type 0
IsEmptied k it = 0 < it.queue.slots → HasValue k None it.hand

-- the seat's last event is the push of k, which was first and woke as said, and y is what was brought at its place
abbrev pub Brings : {V : Type 0} → ℕ → ℕ → Bool → Bool → Option V → ValueStanding V → Type 0
Brings at k is_first is_waking y it =
    (pushed : IsPushed (part_in at it).seat k is_first is_waking (part_in at it).seen)
    × (slice_get it.first.brought (length (accepted pushed.before)) ≡ Some y)

-- tries to push k: the slot in front goes with it, and what lay in it was brought
abbrev pub PostsSlot : {V : Type 0} → ℕ → ℕ → Posted → ValueStanding V → ValueStanding V → Type 0
PostsSlot at k (posted.Queued is_first is_waking) old new =
    LeavesHand old new × (0 < old.queue.slots → Brings at k is_first is_waking (in_front old.hand) new)
PostsSlot at k _ old new = new.hand ≡ old.hand

-- the slot of k is empty, where tries did not push it
abbrev pub IsEmptiedAfter : {V : Type 0} → Posted → ℕ → ValueStanding V → Type 0
IsEmptiedAfter (posted.Queued is_first is_waking) k it = Unit {0}
IsEmptiedAfter _ k it = IsEmptied k it

-- a queueing after such tries: a number that was not pushed is given back
abbrev pub SettlesSlot : {V : Type 0} → Posted → ValueStanding V → ValueStanding V → Type 0
SettlesSlot (posted.Queued is_first is_waking) old new = new ≡ old
SettlesSlot _ old new = LeavesHand old new

-- a queueing of k that brought y
abbrev pub QueuesSlot : {V : Type 0} → ℕ → ℕ → Option V → Answer → ValueStanding V → ValueStanding V → Type 0
QueuesSlot at k y (answer.Queued is_first is_waking) old new = (new.hand ≡ old.hand) × (0 < old.queue.slots → Brings at k is_first is_waking y new)
QueuesSlot at k y _ old new = new.hand ≡ old.hand

abbrev pub slot_number : {V : Type 0} → ℕ × Option V → ℕ
slot_number x = x.0

-- in each slot lies what its number brought, at a place that has not begun
abbrev pub EachBrought : {V : Type 0} → ℕ → ℕ → List ℕ → List (Option V) → Hand V → Type 0
EachBrought items b acs brs [] = Unit {0}
EachBrought items b acs brs (x ∷ xs) = IsBrought items b acs brs x.0 x.1 × EachBrought items b acs brs xs

-- the slots of these numbers, each with what its number brought
pub record HasHand {V : Type 0} (t : ValuePart V) (hand : Hand V) (numbers : List ℕ) : Type 0 where
  pub numbers_are : map slot_number hand ≡ numbers
  pub each : EachBrought t.part.layout.items (length (begun t.part.seen)) (accepted t.part.seen) t.brought hand

-- these are the owner's slots, where the queue has slots
pub record OwnsSlots {V : Type 0} (it : ValueStanding V) (numbers : List ℕ) : Type 0 where
  pub some : 0 < it.queue.slots → HasHand it.first it.hand numbers
  pub none : it.queue.slots ≡ 0 → it.hand ≡ []

-- the first of these is emptied
pub record OwnsEmptied {V : Type 0} (it : ValueStanding V) (k : ℕ) (numbers : List ℕ) : Type 0 where
  pub some : 0 < it.queue.slots → HasValue k None it.hand × HasHand it.first (rest it.hand) numbers
  pub none : it.queue.slots ≡ 0 → it.hand ≡ []

-- what was taken was walked and turned, and its slots are in front of those of the batch ks
pub record TurnedSlots {V : Type 0} (ks : List ℕ) (row : Row) (old new : ValueStanding V) : Type 0 where
  pub turned : Turned ks row old.first.part new.first.part
  pub slots : OwnsSlots new (turned.taken ++ ks)

-- as many turns bring so many slots behind the others
abbrev pub turns : {S : Type 0} → ℕ → List (ℕ × S) → List (ℕ × S)
turns zero hand = hand
turns (suc n) hand = turns n (turned hand)

-- the hand was turned so often
pub record TurnsHands {V : Type 0} (count : ℕ) (old new : ValueStanding V) : Type 0 where
  pub queue_is : new.queue ≡ old.queue
  pub first_is : new.first ≡ old.first
  pub others_are : new.others ≡ old.others
  pub hand_is : new.hand ≡ turns count old.hand

-- an owner's seat, with the slots of its batch
pub record OwnsSeat {V : Type 0} (s : OwnerSeat V) : Type 0 where
  pub queue : OwnsQueue (owning s)
  pub slots : OwnsSlots s.chair (kept_batch s.chair.first.part.stage)
