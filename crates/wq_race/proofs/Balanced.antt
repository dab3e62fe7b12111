-- The ledgers of a race balance.
use Rattle.wq_race.proofs.Common.{◌≡◌, ◌≢◌, ℕ, suc, ◌+◌, ◌-◌, ◌^◌, ◌<◌, ◌≤◌, ◌⊎◌, Bool, true, false, cond, ◌==◌, List, [], ◌∷◌, ◌++◌, length, map, get_or, inl}
use Rattle.wq_race.proofs.Common.{inr, refl, sym, ap, ◌∙◌, subst, arith, eq-eqb, count_by, eqb-true, cases_lt, append-nil, filter-append, Event, own, count_own}
use Rattle.wq_race.proofs.Common.{own-append, Known, is_queued_by, is_pending_by, is_closed_by, is_draining_by, is_contended_by, capped, sender_counts}
use Rattle.wq_race.proofs.Common.{owner_counts}
use Rattle.wq_race.proofs.Common.{Unbalanced, LedgerState, BookState, IsLedgerOf, largest, AreWhole, AreOwnerWhole, ledgers_of, HasOne, IsFault, IsUnbalanced}
use Rattle.wq_race.proofs.Common.{of_sender, of_worker, ledger_of, pending_own, closed_own, draining_own, contended_own, count_by-le-length}
use Rattle.wq_ledger.specs.declared.balance.Unbalanced.TheVariants.{Missing, Twice, Saturated}
use Rattle.wq_race.proofs.Whole.{queued_own}

whole_one : (n m : ℕ) → n ≤ m → m < 2 ^ 64 - 1 → capped n ≢ largest
whole_one n m le few is = omega (arith, le, few, is)

-- few events of a seat saturate no count
pub whole_counts : (s : ℕ) (h : List Event) → length (own s h) < 2 ^ 64 - 1 → AreWhole (sender_counts s h)
whole_counts s h few =
    let n = length (own s h) in let most = λ (p : Event → Bool). count_by-le-length p (own s h) in (
      whole_one (count_by (is_queued_by s) h) n (omega (arith, queued_own s h, most (is_queued_by s))) few,
      whole_one (count_by (is_pending_by s) h) n (omega (arith, count_own (is_pending_by s) s (pending_own s) h, most (is_pending_by s))) few,
      whole_one (count_by (is_closed_by s) h) n (omega (arith, count_own (is_closed_by s) s (closed_own s) h, most (is_closed_by s))) few,
      whole_one (count_by (is_draining_by s) h) n (omega (arith, count_own (is_draining_by s) s (draining_own s) h, most (is_draining_by s))) few,
      whole_one (count_by (is_contended_by s) h) n (omega (arith, count_own (is_contended_by s) s (contended_own s) h, most (is_contended_by s))) few,
    )

-- senders numbered from b on
abbrev pub AreNumbered : ℕ → List Known → Type 0
AreNumbered b xs = (i : ℕ) (d : Known) → i < length xs → (get_or xs i d).number ≡ b + i

numbered_rest : (b : ℕ) (x : Known) (xs : List Known) → AreNumbered b (x ∷ xs) → AreNumbered (b + 1) xs
numbered_rest b x xs all i d lt = let at : (get_or xs i d).number ≡ b + suc i = all (suc i) d (omega (arith, lt)) in omega (arith, at)

keep : (s : ℕ) (l : LedgerState) (ls : List LedgerState) → l.number ≡ s → ledgers_of s (l ∷ ls) ≡ l ∷ ledgers_of s ls
keep s l ls is = ap (λ (b : Bool). cond b (l ∷ ledgers_of s ls) (ledgers_of s ls)) (eq-eqb l.number s is)

skip : (s : ℕ) (l : LedgerState) (ls : List LedgerState) → l.number ≢ s → ledgers_of s (l ∷ ls) ≡ ledgers_of s ls
skip s l ls not = at (l.number == s) refl
  where
    at : (b : Bool) → (l.number == s) ≡ b → ledgers_of s (l ∷ ls) ≡ ledgers_of s ls
    at true is = absurd (not (eqb-true l.number s is))
    at false is = ap (λ (b : Bool). cond b (l ∷ ledgers_of s ls) (ledgers_of s ls)) is

none_at : (s b : ℕ) (xs : List Known) → AreNumbered b xs → (s < b) ⊎ (b + length xs ≤ s) → ledgers_of s (map ledger_of xs) ≡ []
none_at s b [] all out = refl
none_at s b (x ∷ xs) all out =
    let at : x.number ≡ b = all 0 x (omega arith) ∙ omega arith in
    skip s (ledger_of x) (map ledger_of xs) (differs out at) ∙ none_at s (b + 1) xs (numbered_rest b x xs all) (further out)
  where
    differs : (s < b) ⊎ (b + length (x ∷ xs) ≤ s) → x.number ≡ b → x.number ≢ s
    differs (inl lt) at is = omega (arith, lt, at, is)
    differs (inr le) at is = omega (arith, le, at, is)

    further : (s < b) ⊎ (b + length (x ∷ xs) ≤ s) → (s < b + 1) ⊎ (b + 1 + length xs ≤ s)
    further (inl lt) = inl (omega (arith, lt))
    further (inr le) = inr (omega (arith, le))

one_at : (s b : ℕ) (xs : List Known) (d : Known) → AreNumbered b xs → b ≤ s → s < b + length xs
    → ledgers_of s (map ledger_of xs) ≡ ledger_of (get_or xs (s - b) d) ∷ []
one_at s b [] d all low high = absurd (omega (arith, low, high))
one_at s b (x ∷ xs) d all low high =
    let at : x.number ≡ b = all 0 x (omega arith) ∙ omega arith in
    elim (cases_lt b s) [
      | inl more ↦
          let rest = one_at s (b + 1) xs d (numbered_rest b x xs all) (omega (arith, more)) (omega (arith, high)) in
          let place : s - b ≡ suc (s - (b + 1)) = omega (arith, more) in
          skip s (ledger_of x) (map ledger_of xs) (λ is. omega (arith, is, at, more))
          ∙ (rest ∙ ap (λ (i : ℕ). ledger_of (get_or (x ∷ xs) i d) ∷ []) (sym place))
      | inr le ↦
          let same : x.number ≡ s = omega (arith, at, low, le) in
          let place : s - b ≡ 0 = omega (arith, le) in
          keep s (ledger_of x) (map ledger_of xs) same ∙ (ap (λ (ls : List LedgerState). ledger_of x ∷ ls)
          (none_at s (b + 1) xs (numbered_rest b x xs all) (inl (omega (arith, low, le))))
          ∙ ap (λ (i : ℕ). ledger_of (get_or (x ∷ xs) i d) ∷ []) (sym place))
    ]

-- each sender's ledger, and the program's behind them
pub one_ledger : (n s : ℕ) (xs : List Known) (program d : Known) → AreNumbered 0 xs → length xs ≡ n → program.number ≡ n + 1 → s < n
    → ledgers_of s (map ledger_of xs ++ ledger_of program ∷ []) ≡ ledger_of (get_or xs s d) ∷ []
one_ledger n s xs program d all count last lt =
    let place : s - 0 ≡ s = omega arith in
    filter-append (λ (l : LedgerState). l.number == s) (map ledger_of xs) (ledger_of program ∷ [])
    ∙ ((λ i. one_at s 0 xs d all (omega arith) (omega (arith, lt, count)) i ++ skip s (ledger_of program) [] (λ is. omega (arith, is, last, lt)) i)
    ∙ (append-nil (ledger_of (get_or xs (s - 0) d) ∷ []) ∙ ap (λ (i : ℕ). ledger_of (get_or xs i d) ∷ []) place))

pub last_ledger : (n : ℕ) (xs : List Known) (program : Known) → AreNumbered 0 xs → length xs ≡ n → program.number ≡ n + 1
    → ledgers_of (n + 1) (map ledger_of xs ++ ledger_of program ∷ []) ≡ ledger_of program ∷ []
last_ledger n xs program all count last =
    filter-append (λ (l : LedgerState). l.number == n + 1) (map ledger_of xs) (ledger_of program ∷ [])
    ∙ (λ i. none_at (n + 1) 0 xs all (inr (omega (arith, count))) i ++ keep (n + 1) (ledger_of program) [] last i)

-- where a sender has one ledger, there is no fault of it
pub no_fault : (ledgers : List LedgerState) (s : ℕ) (fault : Unbalanced) → HasOne ledgers s → ¬ IsFault ledgers s fault
no_fault ledgers s (Missing t) one f = let no : one.0 ∷ [] ≡ [] = sym one.1 ∙ f.1 in absurd (cc)
no_fault ledgers s (Twice t) one f = omega (arith, f.1, ap length one.1)
no_fault ledgers s (Saturated t) one f = let both : one.0 ∷ [] ≡ f.1 ∷ [] = sym one.1 ∙ f.2 in let same : one.0 ≡ f.1 = cc in
    f.3 (subst (λ (l : LedgerState). AreWhole l.counts) same one.2)

pub always_balanced : (book : BookState) (ledgers : List LedgerState) → ((s : ℕ) → s < book.layout.senders → s ≢ book.own.number → HasOne ledgers s)
    → AreWhole book.own.counts → AreOwnerWhole (owner_counts book.seen) → (fault : Unbalanced) → ¬ IsUnbalanced book ledgers fault
always_balanced book ledgers ones mine owners fault (of_sender f) = no_fault ledgers f.0 fault (ones f.0 f.1 f.2) f.4
always_balanced book ledgers ones mine owners fault (of_worker have not is) = not (mine, owners)

-- a book made the ledger of a sender that made no event
pub none_made : (h : List Event) (l : LedgerState) → IsLedgerOf h l → own l.number h ≡ [] → AreWhole l.counts
none_made h l m none =
    let front : own l.number m.met ≡ [] = left (own l.number m.met) (own l.number m.before.0) (sym (own-append l.number m.met m.before.0)
    ∙ (ap (own l.number) m.before.1 ∙ none)) in
    subst AreWhole (sym m.counts_are) (whole_counts l.number m.met (omega (arith, ap length front)))
  where
    left : (xs ys : List Event) → xs ++ ys ≡ [] → xs ≡ []
    left [] ys is = refl
    left (x ∷ xs) ys is = absurd (cc)
