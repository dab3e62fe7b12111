-- A seat whose chair speaks for no other, of a queue whose items bring values.
use Rattle.std.specs.Prelude.{◌≡◌, ◌<◌, []}
use Rattle.wq_values.specs.declared.value_sender.ValueSender.TheInside as value_sender
use Rattle.wq_values.specs.declared.value_owner.ValueOwner.TheInside as value_owner
use Rattle.wq_calls.specs.Sits.{sending_in, Sends}
use Rattle.wq_calls.specs.Hands.{OwnsSeat}
use Rattle.wq_calls.specs.Valued.{AreKnown}

pub record SendsValues {V : Type 0} (s : value_sender.Inside V) : Type 0 where
  pub sends : Sends (sending_in 0 s.chair s.sent)
  pub alone : s.chair.others ≡ []
  pub slots : 0 < s.chair.queue.slots
  pub empty : s.chair.hand ≡ []
  pub known : AreKnown s.chair

pub record OwnsValues {V : Type 0} (s : value_owner.Inside V) : Type 0 where
  pub owns : OwnsSeat s.seat
  pub alone : s.seat.chair.others ≡ []
  pub slots : 0 < s.seat.chair.queue.slots
  pub known : AreKnown s.seat.chair
