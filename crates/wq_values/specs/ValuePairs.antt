-- What a clause sees of an owner and a sender in one seat, where items bring values.
use Rattle.std.specs.Prelude.{◌≡◌, ◌<◌, List, Option}
use Rattle.wq_table.specs.SlotSteps.{AllTold}
use Rattle.wq_values.specs.declared.value_pair.ValuePair.TheInside.{Inside}
use Rattle.wq_calls.specs.KnownWith.{KnownWith, Learnt, handed_in}
use Rattle.wq_calls.specs.Pairs.{KnownPair, pair_owner, pair_sender, seats_view, AreSeated}
use Rattle.wq_calls.specs.Valued.{AreKnown}

-- what the two know, and what each accepted number of the history that they have seen brought, in their order
pub record KnownValuePair (V : Type 0) : Type 0 where
  pub known : KnownPair
  pub brought : List (Option V)

-- its owner, and its sender
abbrev pub owner_of : {V : Type 0} → KnownValuePair V → KnownWith V
owner_of p = record { known = pair_owner p.known; brought = p.brought }

abbrev pub sender_of : {V : Type 0} → KnownValuePair V → KnownWith V
sender_of p = record { known = pair_sender p.known; brought = p.brought }

-- what was brought before begins what is brought now, and nothing more was handed
pub record KeepsHanded {V : Type 0} (old new : KnownValuePair V) : Type 0 where
  pub learnt : Learnt (owner_of old) (owner_of new)
  pub handed_same : handed_in (owner_of new) ≡ handed_in (owner_of old)

abbrev pub value_pair_view : {V : Type 0} → Inside V → KnownValuePair V
value_pair_view s = record { known = seats_view s.seat s.sent; brought = s.seat.chair.first.brought }

-- the two are in one seat, its queue has slots, and the sender was told what the owner was
pub record IsValuePair {V : Type 0} (s : Inside V) : Type 0 where
  pub seated : AreSeated s.seat s.sent
  pub slots : 0 < s.seat.chair.queue.slots
  pub known : AreKnown s.seat.chair
  pub told : AllTold s.seat.chair.first.brought s.seat.chair.others
