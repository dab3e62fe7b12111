use Rattle.wq_ledger.proofs.Common.{All, sym, ap, subst, Layout, IsLedgerOf, Balances}
use Rattle.std.specs.Prelude.{MatchResult}
use Rattle.wq_ledger.specs.Balance.{IsUnbalanced}
use Rattle.wq_value_worker.specs.ValueBook.{ValueBookState}
use Rattle.wq_value_worker.proofs.value_book.ValueBook.balance.Goals as goal

pub returns : goal.returns
returns g c =
    let r = c.sum_all.result in let ls = c.args.ledgers.now in let o = c.self.inside.owner.known in
    let made : All (IsLedgerOf o.seen) ls = subst (λ (z : ValueBookState g.row.V.Denot). All (IsLedgerOf z.book.seen) ls) (sym c.self.view_is) c.requires in
    record {
      outcome = subst (λ (z : ValueBookState g.row.V.Denot). MatchResult r (Balances z.book ls) (IsUnbalanced z.book ls)) c.self.view_is
          (c.sum_all.ensures.outcome o c.counts.ensures.counted (ap (λ (z : Layout). z.senders) c.layout-senders.ensures.layout) c.self.invariant made);
    }
