use Rattle.wq_race.proofs.Common.{◌≡◌, map, All, IsLedgerOf, HasHeard, IsTold, ledger_of}
use Rattle.wq_race.proofs.outcome.enter_all.Given as goal

abbrev pub invariant-loop-sender : goal.invariant-loop-sender
invariant-loop-sender l = record {
  book : HasHeard l.fn.book l.book;
  made : All (IsLedgerOf l.book.seen) l.ledgers.items;
  ledgers : l.ledgers.items ≡ map ledger_of l.yielded;
  told : All (IsTold l.fn.book.seen l.book.seen) l.yielded;
}
