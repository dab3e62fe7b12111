-- A trail owns nothing, so it may go to another thread.
use denote.RattleType.{RattleType}
use denote.Param.Send.{IsSend, owning_send, sendable}
use Rattle.value_trail.specs.contracts.ValueTrail.{the_row, the_type}

pub send : (V : RattleType) → IsSend V → IsSend (the_row V)
send V v = owning_send (the_type V) (search sendable, tt) (λ d. tt) (λ k x w. tt)
