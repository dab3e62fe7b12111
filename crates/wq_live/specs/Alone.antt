-- A seat whose chair speaks for no other, of a queue whose items bring nothing.
use Rattle.std.specs.Prelude.{◌≡◌, []}
use Rattle.wq_live.specs.declared.sender.Sender.TheInside as sender
use Rattle.wq_live.specs.declared.owner.Owner.TheInside as owner
use Rattle.wq_calls.specs.Sits.{sending_in, Sends}
use Rattle.wq_calls.specs.Hands.{OwnsSeat}

pub record SendsAlone (s : sender.Inside) : Type 0 where
  pub sends : Sends (sending_in 0 s.chair s.sent)
  pub alone : s.chair.others ≡ []
  pub bare : s.chair.queue.slots ≡ 0
  pub empty : s.chair.hand ≡ []

pub record OwnsAlone (s : owner.Inside) : Type 0 where
  pub owns : OwnsSeat s.seat
  pub alone : s.seat.chair.others ≡ []
  pub bare : s.seat.chair.queue.slots ≡ 0
