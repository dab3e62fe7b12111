use Rattle.wq_ledger.proofs.Common.{All, sym, ap, subst, Layout, IsLedgerOf, BookState, Balances}
use Rattle.std.specs.Prelude.{MatchResult}
use Rattle.wq_ledger.specs.Balance.{IsUnbalanced}
use Rattle.wq_ledger.proofs.book.Book.balance.Goals as goal

pub returns : goal.returns
returns c =
    let r = c.sum_all.result in let ls = c.args.ledgers.now in
    let made : All (IsLedgerOf c.self.inside.owner.seen) ls = subst (λ (z : BookState). All (IsLedgerOf z.seen) ls) (sym c.self.view_is) c.requires in
    record {
      outcome = subst (λ (z : BookState). MatchResult r (Balances z ls) (IsUnbalanced z ls)) c.self.view_is
          (c.sum_all.ensures.outcome c.self.inside.owner c.counts.ensures.counted (ap (λ (z : Layout). z.senders) c.layout-senders.ensures.layout)
          c.self.invariant made);
    }
