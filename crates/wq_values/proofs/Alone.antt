-- Owners alone in their chairs that made steps.
use Rattle.wq_values.proofs.Common.{refl, Learns, learns_right, OwnsSeat, OwnsValues}
use Rattle.wq_values.specs.declared.value_owner.ValueOwner.TheInside as value_owner
use Rattle.wq_calls.proofs.ValueSeats.{learns_alone, still_some}

pub values_alone : {V : Type 0} (s t : value_owner.Inside V) → Learns 0 s.seat.chair t.seat.chair → OwnsValues s → OwnsSeat t.seat → OwnsValues t
values_alone s t l was owns = record {
  owns = owns;
  alone = learns_alone s.seat.chair t.seat.chair l was.alone;
  slots = still_some 0 s.seat.chair t.seat.chair l was.slots;
  known = learns_right 0 s.seat.chair t.seat.chair l refl was.slots;
}
