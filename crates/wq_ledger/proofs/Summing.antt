-- The sums over the ledgers of a queue's senders, as far as they have come.
use Rattle.wq_ledger.proofs.Common.{◌≡◌, ℕ, suc, ◌+◌, ◌<◌, ◌≤◌, Bool, true, false, cond, not, ◌&&◌, ◌≢◌, List, [], ◌∷◌, length, IsSome, nat_lt, ◌==◌, Some}
use Rattle.wq_ledger.proofs.Common.{None, All, sum_by, filter, Option, sym, refl, ap, ◌∙◌, subst, ⊎_elim, arith, le-ltb, eqb-true, cases_lt, sum_by-cons}
use Rattle.wq_ledger.proofs.Common.{SenderCounts, Totals, LedgerState, AreWhole, ledgers_of, HasOne, HaveOne, met_total, SumsMet, none, with_sender, HasGrown}
use Rattle.wq_ledger.proofs.Pushes.{cond_next}

cond_and : (a s : Bool) (x : ℕ) → cond {A = ℕ} (a && s) x 0 ≡ cond a (cond s x 0) 0
cond_and true s x = refl
cond_and false s x = refl

cond_not : (e s : Bool) (x : ℕ) → (e ≡ true → s ≡ false) → cond {A = ℕ} e (cond (not s) x 0) 0 ≡ cond e x 0
cond_not true true x apart = absurd (cc (apart refl))
cond_not true false x apart = refl
cond_not false s x apart = refl

apart_at : (m n seat : ℕ) → n ≢ seat → (s : Bool) → (m == seat) ≡ s → (m == n) ≡ true → s ≡ false
apart_at m n seat other true is same = let a : m ≡ seat = eqb-true m seat is in let b : m ≡ n = eqb-true m n same in absurd (other (sym b ∙ a))
apart_at m n seat other false is same = refl

sum_by-kept : (f : LedgerState → ℕ) (b : Bool) (l : LedgerState) (ls : List LedgerState) → sum_by f (cond b (l ∷ ls) ls) ≡ cond b (f l) 0 + sum_by f ls
sum_by-kept f true l ls = sum_by-cons f l ls
sum_by-kept f false l ls = omega arith

module _ (f : SenderCounts → ℕ) (seat : ℕ) where
  abbrev counted : ℕ → LedgerState → ℕ
  counted n l = cond (nat_lt l.number n && not (l.number == seat)) (f l.counts) 0

  counted_next : (n : ℕ) (l : LedgerState) → n ≢ seat → counted (n + 1) l ≡ counted n l + cond (l.number == n) (f l.counts) 0
  counted_next n l other =
      let m = l.number in let x : ℕ = cond (not (m == seat)) (f l.counts) 0 in
      cond_and (nat_lt m (n + 1)) (not (m == seat)) (f l.counts)
      ∙ (cond_next (nat_lt m n) (m == n) m n x refl refl
      ∙ omega (
        arith,
        cond_and (nat_lt m n) (not (m == seat)) (f l.counts),
        cond_not (m == n) (m == seat) (f l.counts) (apart_at m n seat other (m == seat) refl),
      ))

  counted_skip : (l : LedgerState) (s : Bool) → (l.number == seat) ≡ s → cond {A = ℕ} (l.number == seat) (cond (not (l.number == seat)) (f l.counts) 0) 0 ≡ 0
  counted_skip l s is = rw is (skipped s)
    where
      skipped : (s : Bool) → cond {A = ℕ} s (cond (not s) (f l.counts) 0) 0 ≡ 0
      skipped true = refl
      skipped false = refl

  counted_same : (l : LedgerState) → counted (seat + 1) l ≡ counted seat l
  counted_same l =
      let m = l.number in let x : ℕ = cond (not (m == seat)) (f l.counts) 0 in
      cond_and (nat_lt m (seat + 1)) (not (m == seat)) (f l.counts)
      ∙ (cond_next (nat_lt m seat) (m == seat) m seat x refl refl
      ∙ omega (arith, cond_and (nat_lt m seat) (not (m == seat)) (f l.counts), counted_skip l (m == seat) refl))

  counted_none : (l : LedgerState) → counted 0 l ≡ 0
  counted_none l =
      cond_and (nat_lt l.number 0) (not (l.number == seat)) (f l.counts) ∙ ap (λ (b : Bool). cond b (cond (not (l.number == seat)) (f l.counts) 0) 0)
      (le-ltb l.number 0 (omega arith))

  pub total_next : (n : ℕ) (ls : List LedgerState) → n ≢ seat → met_total f seat (n + 1) ls ≡ met_total f seat n ls + sum_by (λ l. f l.counts) (ledgers_of n ls)
  total_next n [] other = refl
  total_next n (l ∷ ls) other =
      omega (
        arith,
        sum_by-cons (counted (n + 1)) l ls,
        sum_by-cons (counted n) l ls,
        sum_by-kept (λ l. f l.counts) (l.number == n) l (ledgers_of n ls),
        counted_next n l other,
        total_next n ls other,
      )

  pub total_skip : (ls : List LedgerState) → met_total f seat (seat + 1) ls ≡ met_total f seat seat ls
  total_skip [] = refl
  total_skip (l ∷ ls) = omega (arith, sum_by-cons (counted (seat + 1)) l ls, sum_by-cons (counted seat) l ls, counted_same l, total_skip ls)

  pub total_none : (ls : List LedgerState) → met_total f seat 0 ls ≡ 0
  total_none [] = refl
  total_none (l ∷ ls) = omega (arith, sum_by-cons (counted 0) l ls, counted_none l, total_none ls)

-- what a filter kept first is of the list, and passes
module _ (P : LedgerState → Type 0) (p : LedgerState → Bool) where
  kept_step : (b : Bool) (x l : LedgerState) (xs ls : List LedgerState) → p x ≡ b → P x → (filter p xs ≡ l ∷ ls → P l × (p l ≡ true))
      → cond b (x ∷ filter p xs) (filter p xs) ≡ l ∷ ls → P l × (p l ≡ true)
  kept_step true x l xs ls passes here rest is = let same : x ≡ l = cc in subst (λ (z : LedgerState). P z × (p z ≡ true)) same (here, passes)
  kept_step false x l xs ls passes here rest is = rest is

  pub kept_first : (xs : List LedgerState) (l : LedgerState) (ls : List LedgerState) → All P xs → filter p xs ≡ l ∷ ls → P l × (p l ≡ true)
  kept_first [] l ls all is = absurd (cc)
  kept_first (x ∷ xs) l ls all is = kept_step (p x) x l xs ls refl (all 0 x (omega arith)) (kept_first xs l ls (λ k d low. all (suc k) d (omega arith))) is

-- the list of one ledger, or of none
abbrev pub listed_one : Option LedgerState → List LedgerState
listed_one None = []
listed_one (Some ledger) = ledger ∷ []

pub some_length : (o : Option LedgerState) → IsSome o → length (listed_one o) ≡ 1
some_length (Some ledger) is = refl
some_length None is = absurd (cc)

one_sum : (f : SenderCounts → ℕ) (n : ℕ) (ls : List LedgerState) (l : LedgerState)
    → ledgers_of n ls ≡ l ∷ [] → sum_by (λ z. f z.counts) (ledgers_of n ls) ≡ f l.counts
one_sum f n ls l is =
    let e = sum_by-cons (λ (z : LedgerState). f z.counts) l [] in let same = ap (sum_by (λ (z : LedgerState). f z.counts)) is in omega (arith, e, same)

have_next : (ledgers : List LedgerState) (seat n : ℕ) → HaveOne ledgers seat n → (n ≢ seat → HasOne ledgers n) → HaveOne ledgers seat (n + 1)
have_next ledgers seat n all here s low other =
    ⊎_elim (λ (less : s < n). all s less other) (λ (more : n ≤ s). let same : s ≡ n = omega arith in subst (λ (z : ℕ). HasOne ledgers z) (sym same)
    (here (λ (is : n ≡ seat). other (same ∙ is)))) (cases_lt s n)

pub sums_none : (ledgers : List LedgerState) (seat : ℕ) (met : Totals) → met ≡ none → SumsMet ledgers seat 0 met
sums_none ledgers seat met is = record {
  have_one = λ s low other. absurd (omega (arith, low));
  queued_is = ap (λ (t : Totals). t.queued) is ∙ sym (total_none (λ c. c.queued) seat ledgers);
  pending_is = ap (λ (t : Totals). t.pending) is ∙ sym (total_none (λ c. c.pending) seat ledgers);
  closed_is = ap (λ (t : Totals). t.closed) is ∙ sym (total_none (λ c. c.closed) seat ledgers);
  draining_is = ap (λ (t : Totals). t.draining) is ∙ sym (total_none (λ c. c.draining) seat ledgers);
  contended_is = ap (λ (t : Totals). t.contended) is ∙ sym (total_none (λ c. c.contended) seat ledgers);
  queued_room = omega (arith, ap (λ (t : Totals). t.queued) is);
  pending_room = omega (arith, ap (λ (t : Totals). t.pending) is);
  closed_room = omega (arith, ap (λ (t : Totals). t.closed) is);
  draining_room = omega (arith, ap (λ (t : Totals). t.draining) is);
  contended_room = omega (arith, ap (λ (t : Totals). t.contended) is);
}

-- a total with the next ledger
total_more : (f : SenderCounts → ℕ) (seat n : ℕ) (ls : List LedgerState) (l : LedgerState) (met more : ℕ) → n ≢ seat → ledgers_of n ls ≡ l ∷ []
    → met ≡ met_total f seat n ls → more ≡ met + f l.counts → more ≡ met_total f seat (n + 1) ls
total_more f seat n ls l met more other one was is = omega (arith, is, was, total_next f seat n ls other, one_sum f n ls l one)

pub sums_next : (ledgers : List LedgerState) (seat n : ℕ) (met : Totals) (l : LedgerState) (more : Totals) → SumsMet ledgers seat n met → n ≢ seat
    → ledgers_of n ledgers ≡ l ∷ [] → AreWhole l.counts → more ≡ with_sender l.counts met
    → HasGrown met more → SumsMet ledgers seat (n + 1) more
sums_next ledgers seat n met l more sums other one whole is room = record {
  have_one = have_next ledgers seat n sums.have_one (λ _. (l, one, whole));
  queued_is = total_more (λ c. c.queued) seat n ledgers l met.queued more.queued other one sums.queued_is (ap (λ (t : Totals). t.queued) is);
  pending_is = total_more (λ c. c.pending) seat n ledgers l met.pending more.pending other one sums.pending_is (ap (λ (t : Totals). t.pending) is);
  closed_is = total_more (λ c. c.closed) seat n ledgers l met.closed more.closed other one sums.closed_is (ap (λ (t : Totals). t.closed) is);
  draining_is = total_more (λ c. c.draining) seat n ledgers l met.draining more.draining other one sums.draining_is (ap (λ (t : Totals). t.draining) is);
  contended_is = total_more (λ c. c.contended) seat n ledgers l met.contended more.contended other one sums.contended_is (ap (λ (t : Totals). t.contended) is);
  queued_room = omega (arith, sums.queued_room, room.0);
  pending_room = omega (arith, sums.pending_room, room.1);
  closed_room = omega (arith, sums.closed_room, room.2);
  draining_room = omega (arith, sums.draining_room, room.3);
  contended_room = omega (arith, sums.contended_room, room.4);
}

skip_at : (f : SenderCounts → ℕ) (seat n : ℕ) (ls : List LedgerState) → n ≡ seat → met_total f seat (n + 1) ls ≡ met_total f seat n ls
skip_at f seat n ls same = subst (λ (z : ℕ). met_total f seat (z + 1) ls ≡ met_total f seat z ls) (sym same) (total_skip f seat ls)

pub sums_skip : (ledgers : List LedgerState) (seat n : ℕ) (met more : Totals) → SumsMet ledgers seat n met → n ≡ seat → more ≡ met
    → SumsMet ledgers seat (n + 1) more
sums_skip ledgers seat n met more sums same is = record {
  have_one = have_next ledgers seat n sums.have_one (λ other. absurd (other same));
  queued_is = omega (arith, ap (λ (t : Totals). t.queued) is, sums.queued_is, skip_at (λ c. c.queued) seat n ledgers same);
  pending_is = omega (arith, ap (λ (t : Totals). t.pending) is, sums.pending_is, skip_at (λ c. c.pending) seat n ledgers same);
  closed_is = omega (arith, ap (λ (t : Totals). t.closed) is, sums.closed_is, skip_at (λ c. c.closed) seat n ledgers same);
  draining_is = omega (arith, ap (λ (t : Totals). t.draining) is, sums.draining_is, skip_at (λ c. c.draining) seat n ledgers same);
  contended_is = omega (arith, ap (λ (t : Totals). t.contended) is, sums.contended_is, skip_at (λ c. c.contended) seat n ledgers same);
  queued_room = omega (arith, sums.queued_room, ap (λ (t : Totals). t.queued) is);
  pending_room = omega (arith, sums.pending_room, ap (λ (t : Totals). t.pending) is);
  closed_room = omega (arith, sums.closed_room, ap (λ (t : Totals). t.closed) is);
  draining_room = omega (arith, sums.draining_room, ap (λ (t : Totals). t.draining) is);
  contended_room = omega (arith, sums.contended_room, ap (λ (t : Totals). t.contended) is);
}
