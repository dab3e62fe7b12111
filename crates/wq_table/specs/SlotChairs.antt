-- What a clause sees of a chair, and what its steps do.
use Rattle.std.specs.Prelude.{◌≡◌, ◌≢◌, ℕ, zero, suc, ◌<◌, List, [], ◌∷◌, ◌++◌, map, length, Option, IfSome, IsSome}
use Rattle.std.specs.Arc.{arc_value}
use mathlib.Core.List.{IsPrefix}
use Rattle.atomic_table.specs.Seated.{TableId}
use Rattle.atomic_table.specs.Table.{rest, turned}
use Rattle.wq_words.specs.declared.layout.Layout.{Layout}
use Rattle.wq_words.specs.Numbers.{number_count}
use Rattle.wq_words.specs.History.{accepted}
use Rattle.wq_words.specs.Valued.{AreBrought}
use Rattle.wq_core.specs.declared.step.Step.{Step}
use Rattle.wq_core.specs.Words.{word_count}
use Rattle.wq_table.specs.declared.table.Part.{Part}
use Rattle.wq_table.specs.declared.values.ValuePart.{ValuePart}
use Rattle.wq_table.specs.declared.chair.Chair.TheInside.{Inside}
use Rattle.wq_core.specs.Machine.{Machine}
use Rattle.wq_core.specs.Sound.{IsSound}
use Rattle.wq_table.specs.Law.{View, sender_part, owner_part}
use Rattle.wq_table.specs.Plays.{see, all_see}
use Rattle.wq_table.specs.Chair.{Standing, part_at, Steps, SeatedIn}
use Rattle.wq_table.specs.Slots.{ValueView, plain_view, AllKnow, telling, rest_values}
use Rattle.wq_table.specs.SlotSteps.{Hand, MovesSlot, AllTold}

-- which queue it is of, what each seat that it speaks for knows, and the slots that it has in hand
pub record ValueStanding (V : Type 0) : Type 0 where
  pub queue : TableId
  pub first : ValuePart V
  pub others : ValueView V
  pub hand : Hand V

-- the same without values
abbrev pub standing_of : {V : Type 0} → ValueStanding V → Standing
standing_of it = record { queue = it.queue; part = it.first.part; others = plain_view it.others }

-- its part at this place
abbrev pub part_in : {V : Type 0} → ℕ → ValueStanding V → Part
part_in at it = part_at at (standing_of it)

-- The chair's part at this place makes the step and finds this word, and its other parts see it. Just before it had been brought
-- what `brought` says, and now all of them know what was brought since.
pub record ValueSteps {V : Type 0} (at : ℕ) (said : Option V) (step : Step) (word : ℕ) (old new : ValueStanding V) : Type 0 where
  pub steps : Steps at step word (standing_of old) (standing_of new)
  pub brought : List (Option V)
  pub know : AllKnow brought (old.first ∷ old.others)
  pub as_many : length brought ≡ length (accepted steps.moves.makes.before.history)
  pub brought' : List (Option V)
  pub more : IsPrefix brought brought'
  pub told : AllTold brought' (new.first ∷ new.others)
  pub right : 0 < old.queue.slots → AreBrought (part_at at (standing_of new)).layout.items (accepted (part_at at (standing_of new)).seen) brought'
  pub moves : 0 < old.queue.slots → MovesSlot said step (part_at at (standing_of old)) steps.moves.makes.before word brought old.hand brought' new.hand
  pub hand_same : old.queue.slots ≡ 0 → new.hand ≡ old.hand

-- the slot of k is in front of the hand, with y in it
abbrev pub HasValue : {V : Type 0} → ℕ → Option V → Hand V → Type 0
HasValue k y c = c ≡ (k, y) ∷ rest c

abbrev pub HasSlot : {V : Type 0} → ℕ → Hand V → Type 0
HasSlot {V} k c = (y : Option V) × HasValue k y c

-- what lay in the slot of k, in front of the hand, was exchanged
pub record Exchanges {V : Type 0} (k : ℕ) (new old : Option V) (a b : ValueStanding V) : Type 0 where
  pub queue_is : b.queue ≡ a.queue
  pub first_is : b.first ≡ a.first
  pub others_are : b.others ≡ a.others
  pub was : HasValue k old a.hand
  pub is : b.hand ≡ (k, new) ∷ rest a.hand

-- the slot in front went behind the others
pub record TurnsHand {V : Type 0} (a b : ValueStanding V) : Type 0 where
  pub queue_is : b.queue ≡ a.queue
  pub first_is : b.first ≡ a.first
  pub others_are : b.others ≡ a.others
  pub hand_is : b.hand ≡ turned a.hand

abbrev pub first_told : {V : Type 0} → Layout → ValueView V → ValuePart V
first_told layout [] = telling [] (sender_part layout 0)
first_told layout (t ∷ ts) = t

abbrev pub value_standing : {V : Type 0} → Inside V → ValueStanding V
value_standing s = record {
  queue = s.seat.table_id;
  first = first_told s.layout s.seat.me.0;
  others = rest_values s.seat.me.0;
  hand = s.seat.me.1;
}

-- each part is of a queue of this size
abbrev pub AreSized : Layout → View → Type 0
AreSized layout [] = Unit {0}
AreSized layout (p ∷ ps) = (p.layout ≡ layout) × AreSized layout ps

-- the fields of a chair
pub record ValueSits {V : Type 0} (s : Inside V) : Type 0 where
  pub seated : s.seat.table_id ≡ (arc_value s.words).shared.table_id
  pub wide : (arc_value s.words).shared.table_id.words ≡ word_count (number_count s.layout)
  -- a slot for each number, or none
  pub deep : 0 < (arc_value s.words).shared.table_id.slots → (arc_value s.words).shared.table_id.slots ≡ number_count s.layout
  pub keyed : (arc_value s.words).shared.key ≡ s.layout
  pub sized : AreSized s.layout (plain_view s.seat.me.0)
  pub one_view : s.seat.me.0 ≡ first_told s.layout s.seat.me.0 ∷ rest_values s.seat.me.0
  pub spare_is : IfSome s.spare (λ w. (s.seat.table_id ≡ (arc_value w).shared.table_id) × ((arc_value w).shared.key ≡ s.layout))
  pub has_spare : rest_values s.seat.me.0 ≢ [] → IsSome s.spare

-- a chair that has seen all that has happened, and knows all that was brought
abbrev pub knowing : {V : Type 0} → Machine → List (Option V) → ValueStanding V → ValueStanding V
knowing m brs it = record {
  queue = it.queue;
  first = telling brs (see m.history it.first.part);
  others = map (telling brs) (all_see m.history (plain_view it.others));
  hand = it.hand;
}

-- both have seen all that has happened, know all that was brought, and keep their hands
pub record ValueMeet {V : Type 0} (this that this' that' : ValueStanding V) : Type 0 where
  pub machine : Machine
  pub sound : IsSound machine
  pub queue_is : this.queue ≡ that.queue
  pub this_fits : SeatedIn machine (standing_of this)
  pub that_fits : SeatedIn machine (standing_of that)
  pub brought : List (Option V)
  pub as_many : length brought ≡ length (accepted machine.history)
  pub right : 0 < this.queue.slots → AreBrought machine.layout.items (accepted machine.history) brought
  pub this_knows : AllKnow brought (this.first ∷ this.others)
  pub that_knows : AllKnow brought (that.first ∷ that.others)
  pub this_is : this' ≡ knowing machine brought this
  pub that_is : that' ≡ knowing machine brought that

-- the same of three
pub record ValueMeetAll {V : Type 0} (this that third this' that' third' : ValueStanding V) : Type 0 where
  pub machine : Machine
  pub sound : IsSound machine
  pub that_queue : this.queue ≡ that.queue
  pub third_queue : this.queue ≡ third.queue
  pub this_fits : SeatedIn machine (standing_of this)
  pub that_fits : SeatedIn machine (standing_of that)
  pub third_fits : SeatedIn machine (standing_of third)
  pub brought : List (Option V)
  pub as_many : length brought ≡ length (accepted machine.history)
  pub right : 0 < this.queue.slots → AreBrought machine.layout.items (accepted machine.history) brought
  pub this_knows : AllKnow brought (this.first ∷ this.others)
  pub that_knows : AllKnow brought (that.first ∷ that.others)
  pub third_knows : AllKnow brought (third.first ∷ third.others)
  pub this_is : this' ≡ knowing machine brought this
  pub that_is : that' ≡ knowing machine brought that
  pub third_is : third' ≡ knowing machine brought third

-- one chair has the part of the first, behind it the parts of the other, and the hand of the first: they have seen all that has
-- happened, and know all that was brought
pub record ValueJoined {V : Type 0} (this that both : ValueStanding V) : Type 0 where
  pub machine : Machine
  pub sound : IsSound machine
  pub this_fits : SeatedIn machine (standing_of this)
  pub that_fits : SeatedIn machine (standing_of that)
  pub brought : List (Option V)
  pub as_many : length brought ≡ length (accepted machine.history)
  pub right : 0 < this.queue.slots → AreBrought machine.layout.items (accepted machine.history) brought
  pub this_knows : AllKnow brought (this.first ∷ this.others)
  pub that_knows : AllKnow brought (that.first ∷ that.others)
  pub queue_is : both.queue ≡ this.queue
  pub first_is : both.first ≡ telling brought (see machine.history this.first.part)
  pub others_are : both.others ≡ map (telling brought) (all_see machine.history (that.first.part ∷ plain_view that.others))
  pub hand_is : both.hand ≡ this.hand

-- the chairs of the senders below m, which have seen nothing and have nothing in hand
abbrev pub value_sender : {V : Type 0} → TableId → Layout → ℕ → ValueStanding V
value_sender queue layout c = record { queue = queue; first = telling [] (sender_part layout c); others = []; hand = [] }

abbrev pub value_senders : {V : Type 0} → TableId → Layout → ℕ → List (ValueStanding V)
value_senders queue layout zero = []
value_senders queue layout (suc m) = value_senders queue layout m ++ value_sender queue layout m ∷ []

abbrev pub value_owner : {V : Type 0} → TableId → Layout → ValueStanding V
value_owner queue layout = record { queue = queue; first = telling [] (owner_part layout); others = []; hand = [] }
