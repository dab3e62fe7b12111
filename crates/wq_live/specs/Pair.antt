-- What a clause sees of an owner and a sender in one seat, where items bring nothing.
use Rattle.std.specs.Prelude.{◌≡◌}
use Rattle.wq_live.specs.declared.pair.Pair.TheInside.{Inside}
use Rattle.wq_calls.specs.Pairs.{KnownPair, seats_view, AreSeated}

abbrev pub pair_view : Inside → KnownPair
pair_view s = seats_view s.seat s.sent

-- the two are in one seat, and its queue has no slots
pub record IsPair (s : Inside) : Type 0 where
  pub seated : AreSeated s.seat s.sent
  pub bare : s.seat.chair.queue.slots ≡ 0
