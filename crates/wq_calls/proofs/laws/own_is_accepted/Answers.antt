use Rattle.wq_words.proofs.Times.{times_from_Contains, Contains_from_times}
use Rattle.wq_words.specs.History.{accepted}
use Rattle.wq_words.specs.Seen.{own}
use Rattle.wq_words.proofs.OwnAccepted.{own_times}
use Rattle.wq_words.proofs.SeatBySeat.{accepted_of_some}
use Rattle.wq_calls.proofs.Common.{arith}
use Rattle.wq_calls.proofs.laws.own_is_accepted.Goals as goal

pub returns : goal.returns
returns c = record {
  of_some = accepted_of_some;
  among = λ s k h some. Contains_from_times k (accepted h) (omega (arith, own_times s k h, times_from_Contains k (accepted (own s h)) some));
}
