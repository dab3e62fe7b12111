use Rattle.wq_words.proofs.Common.{inl, inr, ap, not}
use Rattle.wq_words.proofs.Tells.{not_tells, first_tells, second_tells, grouped}
use Rattle.wq_words.proofs.history.may_follow.Goals as goal

pub returns-in-Hold : goal.returns-in-Hold
returns-in-Hold c = rw c.in-Hold.is (not_tells _ c.is_pending.ensures)

pub returns-in-Busy : goal.returns-in-Busy
returns-in-Busy c = rw c.in-Busy.is c.is_pending-in-Busy.ensures

pub returns-in-Push : goal.returns-in-Push
returns-in-Push c = rw c.in-Push.is c.may_push.ensures

pub returns-then-holds : goal.returns-then-holds
returns-then-holds c = rw c.in-Back.is (second_tells c.if-holds.true c.holds.ensures c.is_cause.ensures)

pub returns-else-holds : goal.returns-else-holds
returns-else-holds c = rw c.in-Back.is (first_tells c.if-holds.false c.holds.ensures)

pub returns-in-Take : goal.returns-in-Take
returns-in-Take c = elim c.in-Take.is [
  | inl take ↦ rw take (not_tells _ c.is_shut.ensures)
  | inr drain ↦ rw drain (not_tells _ c.is_shut.ensures)
]

pub returns-in-Close : goal.returns-in-Close
returns-in-Close c = rw c.in-Close.is (not_tells _ c.is_closed.ensures)

pub returns-in-Resume : goal.returns-in-Resume
returns-in-Resume c = rw c.in-Resume.is c.may_resume.ensures

pub returns-in-Begin : goal.returns-in-Begin
returns-in-Begin c = rw c.in-Begin.is c.may_begin.ensures

pub returns-then-may_chain : goal.returns-then-may_chain
returns-then-may_chain c =
    rw c.in-Chain.is (grouped (second_tells c.if-may_chain.true c.may_chain.ensures (not_tells _ c.is_pending-then-may_chain.ensures)))

pub returns-else-may_chain : goal.returns-else-may_chain
returns-else-may_chain c = rw c.in-Chain.is (grouped (first_tells c.if-may_chain.false c.may_chain.ensures))

pub returns-then-may_chain-2 : goal.returns-then-may_chain-2
returns-then-may_chain-2 c =
    rw c.in-ChainBusy.is (grouped (second_tells c.if-may_chain-2.true c.may_chain-in-ChainBusy.ensures c.is_pending-then-may_chain-2.ensures))

pub returns-else-may_chain-2 : goal.returns-else-may_chain-2
returns-else-may_chain-2 c = rw c.in-ChainBusy.is (grouped (first_tells c.if-may_chain-2.false c.may_chain-in-ChainBusy.ensures))

pub returns-then-not-is_shut : goal.returns-then-not-is_shut
returns-then-not-is_shut c = rw c.in-Rest.is (second_tells (ap not c.if-not-is_shut.true) (not_tells _ c.is_shut-in-Rest.ensures) c.all_ended.ensures)

pub returns-else-not-is_shut : goal.returns-else-not-is_shut
returns-else-not-is_shut c = rw c.in-Rest.is (first_tells (ap not c.if-not-is_shut.false) (not_tells _ c.is_shut-in-Rest.ensures))
