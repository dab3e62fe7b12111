-- What was gathered, once it is sorted, is the due part of the table.
use Rattle.std.specs.Ordering.{ordering_then}
use Rattle.std.proofs.lemmas.List.Sorted.{All-permutation, IsPermutation-map, sum_by-IsPermutation, list_any-IsPermutation}
use Rattle.wq_delay.proofs.Common.{◌≡◌, ℕ, suc, ◌+◌, ◌<◌, ◌≤◌, Bool, true, false, cond, ◌||◌, ◌≢◌}
use Rattle.wq_delay.proofs.Common.{List, [], ◌∷◌, ◌++◌, map, get_or, nat_lt, nat_le, ◌==◌, Some, None, All}
use Rattle.wq_delay.proofs.Common.{sum_by, Option, IsPermutation, is_lt, Less, Equal, Greater, sym, refl, ap, ◌∙◌, subst, arith}
use Rattle.wq_delay.proofs.Common.{eqb-true, nat_tests, All-head, All-tail, sum_by-cons, AllByRecursion, Entry, due_part, IsOrdered, on_table, IsBefore}
use Rattle.wq_delay.proofs.Common.{all-more, DuePlace, DueItem, place_in, AreOnTable, entry_of, times, place_at}
use Rattle.wq_delay.proofs.Common.{SaysPlace, entries_of, is_due, place_of, AreApart, row_cmp, AreSorted}
use Rattle.wq_delay.proofs.Spelled.{place_off, entries_rows, same_entries}

times_sum : (k : ℕ) (es : List Entry) → times k es ≡ sum_by (λ e. cond (k == e.item) 1 0) es
times_sum k [] = refl
times_sum k (e ∷ es) = ap (λ (z : ℕ). cond (k == e.item) 1 0 + z) (times_sum k es) ∙ sym (sum_by-cons (λ e. cond (k == e.item) 1 0) e es)

pub on_table_permuted : (places : List (Option DuePlace)) (xs ys : List DueItem) → IsPermutation xs ys
    → AreOnTable places (map entry_of xs) → AreOnTable places (map entry_of ys)
on_table_permuted places xs ys moves on =
    let m = IsPermutation-map entry_of xs ys moves in record {
      valid = All-permutation (SaysPlace places) (map entry_of xs) (map entry_of ys) m on.valid;
      single = λ k. let e = sum_by-IsPermutation (λ e. cond (k == e.item) 1 0) (map entry_of xs) (map entry_of ys) m in let s = on.single k in
          let a = times_sum k (map entry_of xs) in let b = times_sum k (map entry_of ys) in omega arith;
    }

pub same_on_table : (k : ℕ) (xs ys : List DueItem) → IsPermutation xs ys → on_table k (map entry_of xs) ≡ on_table k (map entry_of ys)
same_on_table k xs ys moves =
    list_any-IsPermutation (λ e. k == e.item) (map entry_of xs) (map entry_of ys) (IsPermutation-map entry_of xs ys moves)

pub no_times : (k : ℕ) (es : List Entry) → times k es ≡ 0 → on_table k es ≡ false
no_times k [] none = refl
no_times k (f ∷ fs) none = by (k == f.item) none (λ rest. no_times k fs rest)
  where
    by : (b : Bool) → cond b 1 0 + times k fs ≡ 0 → (times k fs ≡ 0 → on_table k fs ≡ false) → (b || on_table k fs) ≡ false
    by true is rest = absurd (omega arith)
    by false is rest = rest (omega arith)

pub times_first : (e : Entry) (es : List Entry) → times e.item (e ∷ es) ≡ 1 + times e.item es
times_first e es = let is : (e.item == e.item) ≡ true = grind (arith, nat_tests) in ap (λ (z : Bool). cond z 1 0 + times e.item es) is

pub no_more_times : (k : ℕ) (e : Entry) (es : List Entry) → times k es ≤ times k (e ∷ es)
no_more_times k e es = by (k == e.item)
  where
    by : (b : Bool) → times k es ≤ cond b 1 0 + times k es
    by true = omega arith
    by false = omega arith

-- an element that a sort puts before another
by_tests : (p q r s u v : Bool) → is_lt (ordering_then (ordering_then (cond p Less (cond q Equal Greater)) (cond r Less (cond s Equal Greater)))
    (cond u Less (cond v Equal Greater))) ≡ false → (p ≡ false) × (q ≡ true → r ≡ false)
by_tests true q r s u v is = absurd (cc)
by_tests false true true s u v is = absurd (cc)
by_tests false true false s u v is = (refl, λ _. refl)
by_tests false false r s u v is = (refl, λ e. absurd (cc))

not_after : (x y : DueItem) → is_lt (row_cmp y x) ≡ false → (x.place.due ≤ y.place.due) × (x.place.due ≡ y.place.due → x.place.arming ≤ y.place.arming)
not_after x y is =
    let p = x.place in let q = y.place in
    let t = by_tests (nat_lt q.due p.due) (q.due == p.due) (nat_lt q.arming p.arming) (q.arming == p.arming) (nat_lt y.item x.item) (y.item == x.item) is in
    let a : nat_lt y.place.due x.place.due ≡ false = t.0 in (
      grind (arith, nat_tests),
      λ same. let e : (y.place.due == x.place.due) ≡ true = grind (arith, nat_tests) in
          let b : nat_lt y.place.arming x.place.arming ≡ false = t.1 e in grind (arith, nat_tests),
    )

sorted_tail : (x : DueItem) (xs : List DueItem) → AreSorted (x ∷ xs) → AreSorted xs
sorted_tail x xs sorted k d low up =
    let e : suc k + 1 ≡ suc (k + 1) = omega arith in
    subst (λ (z : ℕ). is_lt (row_cmp (get_or (x ∷ xs) z d) (get_or (x ∷ xs) (suc k) d)) ≡ false) e (sorted (suc k) d (omega arith) (omega arith))

pub sorted_ordered : (places : List (Option DuePlace)) (xs : List DueItem) → AreApart places
    → AreOnTable places (map entry_of xs) → AreSorted xs → IsOrdered (map entry_of xs)
sorted_ordered places [] apart on sorted = tt
sorted_ordered places (x ∷ []) apart on sorted = (tt, refl, tt)
sorted_ordered places (x ∷ y ∷ ys) apart on sorted =
    let es : List Entry = map entry_of (y ∷ ys) in
    let all = on.valid in
    let rest_valid = All-tail (SaysPlace places) (entry_of x) es all in
    let rest = sorted_ordered places (y ∷ ys) apart
    (record {
      valid = rest_valid;
      single = λ k. let a = on.single k in
          let b = no_more_times k (entry_of x) es in omega arith;
    }) (sorted_tail x (y ∷ ys) sorted) in
    let off : on_table x.item es ≡ false = no_times x.item es (let a = on.single x.item in let b = times_first (entry_of x) es in omega arith) in
    let here = All-head (SaysPlace places) (entry_of x) es all in
    let there = All-head (SaysPlace places) (entry_of y) (map entry_of ys) rest_valid in
    let order = not_after x y (sorted 0 x (omega arith) (omega arith)) in
    let other : x.place.arming ≢ y.place.arming = λ same. let k : x.item ≡ y.item = apart x.item y.item x.place y.place here there same in
    let a = on.single x.item in let b = times_first (entry_of x) es in
    let c = times_first (entry_of y) (map entry_of ys) in let d = ap (λ (z : ℕ). times z es) k in omega arith in
    let first : IsBefore (entry_of x) (entry_of y) = (order.0, λ same. let o = order.1 same in omega arith) in (
      (
        first,
        all-more (IsBefore (entry_of y)) (IsBefore (entry_of x)) (λ g b. (
          omega (arith, b.0, first.0),
          λ s. let u = first.1 (omega (arith, b.0, first.0)) in let v = b.1 (omega (arith, b.0, first.0)) in omega arith,
        )) (map entry_of ys) rest.0,
      ),
      off,
      rest,
    )

-- what is due of a place
abbrev pub due_only : ℕ → Option DuePlace → Option DuePlace
due_only t None = None
due_only t (Some p) = cond (nat_le p.due t) (Some p) None

all_due : (P : Entry → Type 0) (t : ℕ) (es : List Entry) → AllByRecursion P es → AllByRecursion P (due_part t es)
all_due P t [] all = tt
all_due P t (f ∷ fs) all = by (nat_le f.due t) (all_due P t fs all.1)
  where
    by : (b : Bool) → AllByRecursion P (due_part t fs) → AllByRecursion P (cond b (f ∷ due_part t fs) (due_part t fs))
    by true rest = (all.0, rest)
    by false rest = rest

off_due : (k t : ℕ) (es : List Entry) → on_table k es ≡ false → on_table k (due_part t es) ≡ false
off_due k t [] off = refl
off_due k t (f ∷ fs) off = by (nat_le f.due t) (k == f.item) refl off (λ rest. off_due k t fs rest)
  where
    by : (b c : Bool) → (k == f.item) ≡ c → (c || on_table k fs) ≡ false → (on_table k fs ≡ false → on_table k (due_part t fs) ≡ false)
        → on_table k (cond b (f ∷ due_part t fs) (due_part t fs)) ≡ false
    by b true is off rest = absurd (cc)
    by true false is off rest = rw is (rest off)
    by false false is off rest = rest off

pub ordered_due : (t : ℕ) (es : List Entry) → IsOrdered es → IsOrdered (due_part t es)
ordered_due t [] ordered = tt
ordered_due t (f ∷ fs) ordered = by (nat_le f.due t) (ordered_due t fs ordered.2)
  where
    by : (b : Bool) → IsOrdered (due_part t fs) → IsOrdered (cond b (f ∷ due_part t fs) (due_part t fs))
    by true rest = (all_due (IsBefore f) t fs ordered.0, off_due f.item t fs ordered.1, rest)
    by false rest = rest

pub place_due : (t k : ℕ) (es : List Entry) → IsOrdered es → place_of k (due_part t es) ≡ due_only t (place_of k es)
place_due t k [] ordered = refl
place_due t k (f ∷ fs) ordered = by (nat_le f.due t) (k == f.item) refl refl (place_due t k fs ordered.2)
  where
    by : (b c : Bool) → nat_le f.due t ≡ b → (k == f.item) ≡ c → place_of k (due_part t fs) ≡ due_only t (place_of k fs)
        → place_of k (cond b (f ∷ due_part t fs) (due_part t fs)) ≡ due_only t (cond c (Some (place_at f.due f.arming)) (place_of k fs))
    by true true p q rest = rw (p, q) refl
    by true false p q rest = rw q rest
    by false true p q rest =
        rw p (rest ∙ ap (due_only t) (place_off k fs (subst (λ (z : ℕ). on_table z fs ≡ false) (sym (eqb-true k f.item q)) ordered.1)))
    by false false p q rest = rest

pub place_valid : (places : List (Option DuePlace)) (k : ℕ) (es : List Entry) → All (SaysPlace places) es
    → place_of k es ≡ cond (on_table k es) (place_in places k) None
place_valid places k [] valid = refl
place_valid places k (f ∷ fs) valid =
    by (k == f.item) refl (place_valid places k fs (All-tail (SaysPlace places) f fs valid))
  where
    by : (b : Bool) → (k == f.item) ≡ b → place_of k fs ≡ cond (on_table k fs) (place_in places k) None
        → cond b (Some (place_at f.due f.arming)) (place_of k fs) ≡ cond (b || on_table k fs) (place_in places k) None
    by true is rest =
        sym (ap (place_in places) (eqb-true k f.item is) ∙ All-head (SaysPlace places) f fs valid)
    by false is rest = rest

-- entries in order that are what is due
pub ordered_is_due : (places : List (Option DuePlace)) (now : ℕ) (es : List Entry) → AreApart places → All (SaysPlace places) es → IsOrdered es
    → ((k : ℕ) → on_table k es ≡ is_due now (place_in places k)) → es ≡ due_part now (entries_of places)
ordered_is_due places now es apart valid ordered which =
    let rows = entries_rows places apart in
    same_entries es (due_part now (entries_of places)) ordered (ordered_due now (entries_of places) rows.ordered)
    (λ k. place_valid places k es valid
    ∙ (ap (λ (z : Bool). cond z (place_in places k) None) (which k)
    ∙ (as_due (place_in places k) ∙ (ap (due_only now) (rows.known k) ∙ sym (place_due now k (entries_of places) rows.ordered)))))
  where
    as_due : (o : Option DuePlace) → cond (is_due now o) o None ≡ due_only now o
    as_due None = refl
    as_due (Some p) = refl

pub sorted_is_due : (places : List (Option DuePlace)) (now : ℕ) (xs : List DueItem) → AreApart places
    → AreOnTable places (map entry_of xs) → AreSorted xs
    → ((k : ℕ) → on_table k (map entry_of xs) ≡ is_due now (place_in places k))
    → map entry_of xs ≡ due_part now (entries_of places)
sorted_is_due places now xs apart on sorted which =
    ordered_is_due places now (map entry_of xs) apart on.valid (sorted_ordered places xs apart on sorted) which

-- what goes out behind all that is due at a tick
before_all : (x : Entry) (t : ℕ) (ys : List Entry) → x.due ≤ t → All (λ e. t < e.due) ys → AllByRecursion (IsBefore x) ys
before_all x t [] low all = tt
before_all x t (y ∷ ys) low all =
    let late : t < y.due = All-head (λ e. t < e.due) y ys all in
    ((omega arith, λ same. absurd (omega arith)), before_all x t ys low (All-tail (λ e. t < e.due) y ys all))

joined_all : (P : Entry → Type 0) (xs ys : List Entry) → AllByRecursion P xs → AllByRecursion P ys → AllByRecursion P (xs ++ ys)
joined_all P [] ys all more = more
joined_all P (x ∷ xs) ys all more = (all.0, joined_all P xs ys all.1 more)

pub times_append : (k : ℕ) (xs ys : List Entry) → times k (xs ++ ys) ≡ times k xs + times k ys
times_append k [] ys = omega arith
times_append k (x ∷ xs) ys = by (cond (k == x.item) 1 0) (times_append k xs ys)
  where
    by : (n : ℕ) → times k (xs ++ ys) ≡ times k xs + times k ys → n + times k (xs ++ ys) ≡ (n + times k xs) + times k ys
    by n is = omega arith

-- what is due at a tick, and then what is due later
pub ordered_joined : (t : ℕ) (xs ys : List Entry) → IsOrdered xs → IsOrdered ys → All (λ e. e.due ≤ t) xs → All (λ e. t < e.due) ys
    → ((k : ℕ) → times k (xs ++ ys) ≤ 1) → IsOrdered (xs ++ ys)
ordered_joined t [] ys first second early late single = second
ordered_joined t (x ∷ xs) ys first second early late single = (
  joined_all (IsBefore x) xs ys first.0 (before_all x t ys (All-head (λ e. e.due ≤ t) x xs early) late),
  no_times x.item (xs ++ ys) (let a = single x.item in let b = times_first x (xs ++ ys) in omega arith),
  ordered_joined t xs ys first.2 second (All-tail (λ e. e.due ≤ t) x xs early) late
      (λ k. let a = single k in let b = no_more_times k x (xs ++ ys) in omega arith),
)
