use Rattle.std.proofs.Common.{sym, subst}
use Rattle.std.specs.Prelude.{All}
use Rattle.wq_ledger.specs.Book.{IsLedgerOf}
use Rattle.test_queues.proofs.worker.crew.balance_crew.Goals as goal

pub balance-requires : goal.balance-requires
balance-requires g c = subst (All (IsLedgerOf c.enter_all-ledgers.new.book.seen)) (sym c.as_slice.ensures.value) c.enter_all-ledgers.ensures
