use Rattle.wq_pool_plan.proofs.Common.{List, [], ◌∷◌, ◌++◌, sym, ap, ◌∙◌, subst, All, LedgerState, IsLedgerOf, ledger_of, heard_on, told_on}
use Rattle.wq_pool_plan.proofs.outcome.balance_with.Goals as goal

pub returns : goal.returns
returns c =
    let last = c.enter.new.book in record {
      last = last;
      ledgers = c.deref.result.now;
      heard = heard_on c.args.book.now c.enter_all.new.book last c.enter_all.ensures.book c.enter.ensures.book;
      legal = c.legal.ensures.legal;
      complete = c.legal.ensures.complete;
      told = told_on c.args.book.now.seen c.enter_all.new.book.seen last.seen c.args.senders.items c.enter.ensures.book.begins
          c.in_ok-enter_all.ensures.told;
      program_told = c.enter.ensures.told;
      made = subst (All (IsLedgerOf last.seen)) (sym c.deref.ensures.value) c.in_ok-enter.ensures.made;
      ledgers_are = c.deref.ensures.value ∙ (c.in_ok-enter.ensures.ledger
          ∙ ap (λ (ls : List LedgerState). ls ++ ledger_of c.args.program.now ∷ []) c.in_ok-enter_all.ensures.ledgers);
      outcome = c.balance.ensures.outcome;
    }
