-- The sums of a book whose ledgers do are those of its history.
use Rattle.wq_live.specs.Known.{Known}
use Rattle.wq_ledger.proofs.Common.{◌≡◌, ℕ, zero, suc, ◌+◌, Bool, true, false, cond, ◌≢◌, List, [], length, nat_lt, ◌==◌, All, sum_by, count_by, sym, refl, ap}
use Rattle.wq_ledger.proofs.Common.{◌∙◌, subst, add-one, arith, ltb-false, lt-ltb, le-ltb, eqb-true, eqb-false, sum_by-cons, Layout, Event, ended, is_push}
use Rattle.wq_ledger.proofs.Common.{IsLegal, is_queued_by, is_chain, is_chain_busy, accepted-count, capped, owner_counts, Totals, LedgerState, IsLedgerOf}
use Rattle.wq_ledger.proofs.Common.{AreBookParts, book_of, largest, AreWhole, AreOwnerWhole, ledgers_of, HasOne, HaveOne, met_total, SumsMet, Balances}
use Rattle.wq_ledger.proofs.Common.{with_sender, with_owner}
use Rattle.wq_ledger.proofs.Pushes.{cond_next, is_queued_below, below_more, below_none, below_all, none_above, queued_made}
use Rattle.wq_ledger.proofs.Summing.{total_next, total_skip, total_none, kept_first}

module _ (layout : Layout) (h : List Event) (legal : IsLegal layout h) (ledgers : List LedgerState) (made : All (IsLedgerOf h) ledgers) (seat : ℕ) where
  abbrev own_below : ℕ → ℕ
  own_below n = cond (nat_lt seat n) (count_by (is_queued_by seat) h) 0

  one_met : (n : ℕ) → HasOne ledgers n → sum_by (λ l. l.counts.queued) (ledgers_of n ledgers) ≡ count_by (is_queued_by n) h
  one_met n one =
      let l = one.0 in let k = kept_first (IsLedgerOf h) (λ z. z.number == n) ledgers l [] made one.1 in
      let same : l.number ≡ n = eqb-true l.number n k.1 in
      let alone = ap (sum_by (λ (z : LedgerState). z.counts.queued)) one.1 in
      let whole = queued_made layout h l legal k.0 one.2.0 in
      alone ∙ (sum_by-cons (λ (z : LedgerState). z.counts.queued) l [] ∙ (omega arith ∙ (whole ∙ ap (λ (z : ℕ). count_by (is_queued_by z) h) same)))

  next_met : (n : ℕ) (b : Bool) → (n == seat) ≡ b → HaveOne ledgers seat (n + 1)
      → met_total (λ c. c.queued) seat n ledgers + own_below n ≡ count_by (is_queued_below n) h
      → met_total (λ c. c.queued) seat (n + 1) ledgers + own_below (n + 1) ≡ count_by (is_queued_below (n + 1)) h
  next_met n true is one before =
      let same : n ≡ seat = eqb-true n seat is in
      let t : met_total (λ c. c.queued) seat (n + 1) ledgers ≡ met_total (λ c. c.queued) seat n ledgers =
      subst (λ (z : ℕ). met_total (λ c. c.queued) seat (z + 1) ledgers ≡ met_total (λ c. c.queued) seat z ledgers) (sym same)
      (total_skip (λ c. c.queued) seat ledgers) in
      let q : count_by (is_queued_by n) h ≡ count_by (is_queued_by seat) h = ap (λ (z : ℕ). count_by (is_queued_by z) h) same in
      let low : own_below n ≡ 0 = ap (λ (b : Bool). cond b (count_by (is_queued_by seat) h) 0) (le-ltb seat n (omega arith)) in
      let now : own_below (n + 1) ≡ count_by (is_queued_by seat) h =
      ap (λ (b : Bool). cond b (count_by (is_queued_by seat) h) 0) (lt-ltb seat (n + 1) (omega arith)) in
      omega (arith, t, q, low, now, below_more n h, before)
  next_met n false is one before =
      let other : n ≢ seat = eqb-false n seat is in
      let back : (seat == n) ≡ false = differs (seat == n) refl other in
      let now = cond_next (nat_lt seat n) (seat == n) seat n (count_by (is_queued_by seat) h) refl refl in
      let none : cond {A = ℕ} (seat == n) (count_by (is_queued_by seat) h) 0 ≡ 0 = ap (λ (b : Bool). cond b (count_by (is_queued_by seat) h) 0) back in
      omega (arith, total_next (λ c. c.queued) seat n ledgers other, one_met n (one n (omega arith) other), now, none, below_more n h, before)
    where
      differs : (b : Bool) → (seat == n) ≡ b → n ≢ seat → (seat == n) ≡ false
      differs true is other = absurd (other (sym (eqb-true seat n is)))
      differs false is other = is

  pub queued_met : (n : ℕ) → HaveOne ledgers seat n → met_total (λ c. c.queued) seat n ledgers + own_below n ≡ count_by (is_queued_below n) h
  queued_met zero one =
      let none : own_below 0 ≡ 0 = ap (λ (b : Bool). cond b (count_by (is_queued_by seat) h) 0) (le-ltb seat 0 (omega arith)) in
      omega (arith, total_none (λ c. c.queued) seat ledgers, none, below_none h)
  queued_met (suc n) one =
      subst (λ (z : ℕ). met_total (λ c. c.queued) seat z ledgers + own_below z ≡ count_by (is_queued_below z) h) (add-one n)
      (next_met n (n == seat) refl (λ s low other. one s (omega arith) other) (queued_met n (λ s low other. one s (omega arith) other)))

  queued_end : (b : Bool) → nat_lt seat layout.senders ≡ b
      → met_total (λ c. c.queued) seat layout.senders ledgers + cond b (count_by (is_queued_by seat) h) 0 ≡ count_by is_push h
      → met_total (λ c. c.queued) seat layout.senders ledgers + count_by (is_queued_by seat) h ≡ count_by is_push h
  queued_end true is told = told
  queued_end false is told = omega (arith, told, none_above layout seat (ltb-false seat layout.senders is) h legal)

  -- all senders' counts of pushes are all pushes
  pub queued_all : HaveOne ledgers seat layout.senders
      → met_total (λ c. c.queued) seat layout.senders ledgers + count_by (is_queued_by seat) h ≡ count_by is_push h
  queued_all one = queued_end (nat_lt seat layout.senders) refl (queued_met layout.senders one ∙ below_all layout h legal)

whole_is : (n : ℕ) → capped n ≢ largest → capped n ≡ n
whole_is n less = omega arith

-- the sums of a book whose ledgers do
pub balances : (owner : Known) (own : LedgerState) (ledgers : List LedgerState) (met totals : Totals) → AreBookParts owner own
    → All (IsLedgerOf owner.seen) ledgers → SumsMet ledgers own.number owner.layout.senders met → AreWhole own.counts → AreOwnerWhole (owner_counts owner.seen)
    → totals ≡ with_owner (owner_counts owner.seen) (with_sender own.counts met) → Balances (book_of owner own) ledgers totals
balances owner own ledgers met totals parts made sums whole owner_whole is =
    let h = owner.seen in
    let mine = queued_made owner.layout h own parts.legal parts.made whole.0 in
    let all = queued_all owner.layout h parts.legal ledgers made own.number sums.have_one in
    let queued : totals.queued ≡ count_by is_push h = omega (arith, ap (λ (t : Totals). t.queued) is, sums.queued_is, mine, all) in
    let chained : totals.chained ≡ count_by is_chain h = ap (λ (t : Totals). t.chained) is ∙ whole_is (count_by is_chain h) owner_whole.0 in
    let executed : totals.executed ≡ length (ended h) = ap (λ (t : Totals). t.executed) is ∙ whole_is (length (ended h)) owner_whole.2 in
    let busy : (owner_counts h).chain_busy ≡ count_by is_chain_busy h = whole_is (count_by is_chain_busy h) owner_whole.1 in
    record {
      have_one = sums.have_one;
      own_made = parts.made;
      own_whole = whole;
      owner_whole = owner_whole;
      queued_is = queued;
      chained_is = chained;
      executed_is = executed;
      balance = omega (arith, queued, chained, executed, accepted-count h, parts.complete.1);
      queued_sum = omega (arith, ap (λ (t : Totals). t.queued) is, sums.queued_is);
      pending_is = omega (arith, ap (λ (t : Totals). t.pending) is, sums.pending_is, busy);
      closed_is = omega (arith, ap (λ (t : Totals). t.closed) is, sums.closed_is);
      draining_is = omega (arith, ap (λ (t : Totals). t.draining) is, sums.draining_is);
      contended_is = omega (arith, ap (λ (t : Totals). t.contended) is, sums.contended_is);
    }
