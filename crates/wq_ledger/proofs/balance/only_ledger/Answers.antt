use Rattle.std.proofs.lemmas.List.Sums.{length-filter, count_by_more_yes, sum_by-take-le}
use Rattle.wq_ledger.proofs.Common.{◌≡◌, ℕ, ◌+◌, cond, length, get_or, take, IsSome, ◌==◌, count_by, sym, refl, ap, ◌∙◌, arith, rules, eq-eqb, LedgerState}
use Rattle.wq_ledger.proofs.Summing.{some_length}
use Rattle.wq_ledger.proofs.balance.only_ledger.Goals as goal

pub returns-then-is_some : goal.returns-then-is_some
returns-then-is_some c =
    let xs = c.args.ledgers.now in let n = c.args.number in let i = c.loop-ledger.ledger-index in
    let p = λ (l : LedgerState). l.number == n in
    let is : (get_or xs i c.ledger-item.result).number ≡ n =
    sym (ap (λ (l : LedgerState). l.number) c.ledger-item.is) ∙ (sym c.number.ensures.seat ∙ c.if-number.true) in
    let more : count_by p (take (i + 1) xs) ≡ count_by p (take i xs) + 1 =
    count_by_more_yes p xs i c.ledger-item.result c.loop-ledger-test.true (eq-eqb _ _ is) in
    let some : IsSome c.loop-ledger.found = search rules in
    let one : count_by p (take i xs) ≡ 1 = sym (length-filter p (take i xs)) ∙
    (ap (length {A = LedgerState}) c.loop-ledger.invariant ∙ some_length c.loop-ledger.found some) in
    (refl, omega (arith, length-filter p xs, more, one, sum_by-take-le (λ (x : LedgerState). cond {A = ℕ} (p x) 1 0) xs (i + 1)))
