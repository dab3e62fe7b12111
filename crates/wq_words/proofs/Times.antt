-- How often a number stands in a list; numbers below n that each stand at most once are at most n.
use Rattle.wq_words.proofs.Common.{◌≡◌, ℕ, zero, suc, ◌+◌, ◌<◌, ◌≤◌, Bool, true, false, cond, eqb, ◌==◌, ◌||◌, List, [], ◌∷◌, ◌++◌, length, reverse, refl, sym, ap, ◌∙◌, arith}
use Rattle.wq_words.proofs.Common.{count_by, inl, inr, ◌↔◌, eq-eqb, ne_eqb, eqb-true, cases_lt, sum_by-cons, sum_by-append, AllByRecursion, filter}
use Rattle.std.proofs.Common.{IsTrue}
use Rattle.std.specs.List.{Contains, list_any, IsDistinct}
use Rattle.std.proofs.lemmas.Map.Steps.{length-le_from_distinct_below}
use Rattle.std.proofs.lemmas.Bool.{cases_eq}
use mathlib.Core.List.{reverse_aux}

-- how often k stands there
abbrev pub times : ℕ → List ℕ → ℕ
times k ks = count_by (λ j. j == k) ks

pub times-cons : (k j : ℕ) (ks : List ℕ) → times k (j ∷ ks) ≡ cond (j == k) 1 0 + times k ks
times-cons k j ks = sum_by-cons (λ i. cond (i == k) 1 0) j ks

pub times-append : (k : ℕ) (xs ys : List ℕ) → times k (xs ++ ys) ≡ times k xs + times k ys
times-append k xs ys = sum_by-append (λ i. cond (i == k) 1 0) xs ys

pub times-reverse_aux : (k : ℕ) (xs ys : List ℕ) → times k (reverse_aux xs ys) ≡ times k xs + times k ys
times-reverse_aux k [] ys = omega arith
times-reverse_aux k (x ∷ xs) ys = omega (arith, times-reverse_aux k xs (x ∷ ys), times-cons k x xs, times-cons k x ys)

pub times-first : (k : ℕ) (ks : List ℕ) → times k (k ∷ ks) ≡ 1 + times k ks
times-first k ks = times-cons k k ks ∙ ap (λ q. cond q 1 0 + times k ks) (eq-eqb k k refl)

pub times-other : (k j : ℕ) (ks : List ℕ) → (j ≡ k → ⊥) → times k (j ∷ ks) ≡ times k ks
times-other k j ks ne = let none : ◌≡◌ {A = ℕ} (cond (j == k) 1 0) 0 = ap (λ (b : Bool). cond b 1 0) (ne_eqb j k ne) in omega (arith, none, times-cons k j ks)

-- a number stands no more often in what is kept
pub times-filter : (k : ℕ) (p : ℕ → Bool) (xs : List ℕ) → times k (filter p xs) ≤ times k xs
times-filter k p [] = omega arith
times-filter k p (x ∷ xs) = go (p x) refl (times-filter k p xs)
  where
    go : (b : Bool) → p x ≡ b → times k (filter p xs) ≤ times k xs → times k (filter p (x ∷ xs)) ≤ times k (x ∷ xs)
    go true is rest = rw is (omega (arith, rest, times-cons k x (filter p xs), times-cons k x xs))
    go false is rest = rw is (omega (arith, rest, times-cons k x xs))

-- a number stands in a list where it stands there some times
pub times_from_Contains : (k : ℕ) (xs : List ℕ) → Contains xs k → 1 ≤ times k xs
times_from_Contains k [] is = absurd (omega (arith, is.1))
times_from_Contains k (x ∷ xs) (zero, lt, same) = omega (arith, times-cons k x xs, ap {B = ℕ} (λ (b : Bool). cond b 1 0) (eq-eqb x k same))
times_from_Contains k (x ∷ xs) (suc place, lt, same) = omega (arith, times-cons k x xs, times_from_Contains k xs (place, omega arith, same))

pub Contains_from_times : (k : ℕ) (xs : List ℕ) → 1 ≤ times k xs → Contains xs k
Contains_from_times k [] some = absurd (omega (arith, some))
Contains_from_times k (x ∷ xs) some = elim (cases_eq x k) [
  | inl same ↦ (0, omega arith, same)
  | inr ne ↦ let rest = Contains_from_times k xs (omega (arith, some, times-other k x xs ne)) in (suc rest.0, omega (arith, rest.1), rest.2)
]

pub none_from_times : (k : ℕ) (xs : List ℕ) → times k xs ≡ 0 → ¬ Contains xs k
none_from_times k xs none is = absurd (omega (arith, none, times_from_Contains k xs is))

pub times_from_none : (k : ℕ) (xs : List ℕ) → ¬ Contains xs k → times k xs ≡ 0
times_from_none k xs none = elim (cases_lt (times k xs) 1) [
  | inl less ↦ omega (arith, less)
  | inr some ↦ absurd (none (Contains_from_times k xs some))
]

-- whether any passes a test, by how many pass one that agrees with it
pub any_counted : {X : Type 0} (p q : X → Bool) → ((x : X) → p x ≡ q x) → (xs : List X) → IsTrue (list_any p xs) ↔ (1 ≤ count_by q xs)
any_counted p q same [] = (λ e. absurd (cc e), λ some. absurd (omega arith))
any_counted p q same (x ∷ xs) = go (p x) refl (any_counted p q same xs)
  where
    one : count_by q (x ∷ xs) ≡ cond (p x) 1 0 + count_by q xs
    one = rw (same x) (sum_by-cons (λ y. cond (q y) 1 0) x xs)

    go : (b : Bool) → p x ≡ b → (IsTrue (list_any p xs) ↔ (1 ≤ count_by q xs)) → IsTrue (list_any p (x ∷ xs)) ↔ (1 ≤ count_by q (x ∷ xs))
    go true e rest = (λ _. omega (arith, one, ap {B = ℕ} (λ (b : Bool). cond b 1 0) e), λ _. rw e refl)
    go false e rest = let more : count_by q (x ∷ xs) ≡ count_by q xs = omega (arith, one, ap {B = ℕ} (λ (b : Bool). cond b 1 0) e) in rw (more, e) rest

-- whether it stands in a list that is stored the other way round
pub any_stored : (k : ℕ) (xs : List ℕ) → IsTrue (list_any (λ y. y == k) xs) ↔ Contains (reverse xs) k
any_stored k xs =
    let any = any_counted (λ y. y == k) (λ y. y == k) (λ y. refl) xs in
    let same : times k (reverse xs) ≡ times k xs = omega (arith, times-reverse_aux k xs []) in
    (λ e. Contains_from_times k (reverse xs) (omega (arith, same, any.0 e)), λ there. any.1 (omega (arith, same, times_from_Contains k (reverse xs) there)))

-- numbers that each stand there once at most are distinct
none_same : (x : ℕ) (ys : List ℕ) → times x ys ≡ 0 → AllByRecursion (λ y. eqb x y ≡ false) ys
none_same x [] none = tt
none_same x (y ∷ ys) none =
    let count = times-cons x y ys in (
      ne_eqb x y (λ e. let one : ◌≡◌ {A = ℕ} (cond (y == x) 1 0) 1 = ap (λ (b : Bool). cond b 1 0) (eq-eqb y x (sym e)) in
          omega arith),
      none_same x ys (omega arith),
    )

distinct : (xs : List ℕ) → ((q : ℕ) → times q xs ≤ 1) → IsDistinct eqb xs
unfolding IsDistinct
distinct [] once = tt
distinct (x ∷ xs) once = (none_same x xs (omega (arith, once x, times-first x xs)), distinct xs (λ q. omega (arith, once q, times-cons q x xs)))

any_counts : (q : ℕ) (xs : List ℕ) → list_any (eqb q) xs ≡ true → 1 ≤ times q xs
any_counts q [] is = absurd (cc)
any_counts q (x ∷ xs) is = go (eqb q x) refl (any_counts q xs)
  where
    go : (b : Bool) → eqb q x ≡ b → (list_any (eqb q) xs ≡ true → 1 ≤ times q xs) → 1 ≤ times q (x ∷ xs)
    go true e more = let one : ◌≡◌ {A = ℕ} (cond (x == q) 1 0) 1 = ap (λ (b : Bool). cond b 1 0) (eq-eqb x q (sym (eqb-true q x e))) in
        omega (arith, times-cons q x xs)
    go false e more = let rest = more (ap (λ (b : Bool). b || list_any (eqb q) xs) (sym e) ∙ is) in omega (arith, times-cons q x xs)

pub length-distinct_below : (xs : List ℕ) (n : ℕ) → ((q : ℕ) → times q xs ≤ 1) → ((q : ℕ) → 1 ≤ times q xs → q < n) → length xs ≤ n
length-distinct_below xs n once below = length-le_from_distinct_below xs n (distinct xs once) (λ q is. below q (any_counts q xs is))
