use Rattle.wq_ledger.proofs.Common.{◌≡◌, take, ledgers_of}
use Rattle.wq_ledger.proofs.Summing.{listed_one}
use Rattle.wq_ledger.proofs.balance.only_ledger.Given as goal

abbrev pub invariant-loop-ledger : goal.invariant-loop-ledger
invariant-loop-ledger l = ledgers_of l.number (take l.ledger-index l.ledgers) ≡ listed_one l.found
