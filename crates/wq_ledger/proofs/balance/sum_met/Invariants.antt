use Rattle.wq_ledger.proofs.Common.{SumsMet}
use Rattle.wq_ledger.proofs.balance.sum_met.Given as goal

abbrev pub invariant-loop-number : goal.invariant-loop-number
invariant-loop-number l = SumsMet l.ledgers l.seat l.number l.met
