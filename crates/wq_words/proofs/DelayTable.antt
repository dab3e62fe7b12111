-- The delay table after an entry was placed, or an item taken off, and its due part.
use Rattle.wq_words.proofs.Common.{◌≡◌, ℕ, ◌+◌, ◌<◌, ◌≤◌, ◌==◌, Bool, true, false, cond, not, ◌||◌, ◌&&◌, List, [], ◌∷◌, ◌++◌, length, refl, sym, ap, ◌∙◌}
use Rattle.wq_words.proofs.Common.{arith, nat_lt, nat_le, AllByRecursion, nat_tests}
use Rattle.wq_words.specs.DelayTable.{Entry, on_table, due_part, later_part, placed, without, IsBefore, IsOrdered, AreArmedBefore}
use Rattle.std.proofs.lemmas.Bool.{and_right}

pub first_false : (p q : Bool) → (p || q) ≡ false → p ≡ false
first_false true q is = cc
first_false false q is = refl

pub second_false : (p q : Bool) → (p || q) ≡ false → q ≡ false
second_false true q is = cc
second_false false q is = is

-- all of a placed table
pub all_by : (P : Entry → Type 0) (b : Bool) (e : Entry) (fs gs : List Entry) → P e → AllByRecursion P fs → AllByRecursion P gs
    → AllByRecursion P (cond b (e ∷ fs) gs)
all_by P true e fs gs p q r = (p, q)
all_by P false e fs gs p q r = r

pub all-placed : (P : Entry → Type 0) (e : Entry) (es : List Entry) → P e → AllByRecursion P es → AllByRecursion P (placed e es)
all-placed P e [] p all = (p, tt)
all-placed P e (f ∷ fs) p all = all_by P (nat_lt e.due f.due) e (f ∷ fs) (f ∷ placed e fs) p all (all.0, all-placed P e fs p all.1)

keeps_by : (P : Entry → Type 0) (b : Bool) (f : Entry) (fs : List Entry) → P f → AllByRecursion P fs → AllByRecursion P (cond b (f ∷ fs) fs)
keeps_by P true f fs p all = (p, all)
keeps_by P false f fs p all = all

pub all-without : (P : Entry → Type 0) (k : ℕ) (es : List Entry) → AllByRecursion P es → AllByRecursion P (without k es)
all-without P k [] all = tt
all-without P k (f ∷ fs) all = keeps_by P (not (k == f.item)) f (without k fs) all.0 (all-without P k fs all.1)

pub all-more : (P Q : Entry → Type 0) → ((e : Entry) → P e → Q e) → (es : List Entry) → AllByRecursion P es → AllByRecursion Q es
all-more P Q go [] all = tt
all-more P Q go (f ∷ fs) all = (go f all.0, all-more P Q go fs all.1)

-- which items are on it
swap_or : (p q r : Bool) → (q || (p || r)) ≡ (p || (q || r))
swap_or true true r = refl
swap_or true false r = refl
swap_or false q r = refl

placed_by : (b : Bool) (j : ℕ) (e f : Entry) (fs gs : List Entry) → on_table j gs ≡ ((j == e.item) || on_table j fs)
    → on_table j (cond b (e ∷ f ∷ fs) (f ∷ gs)) ≡ ((j == e.item) || ((j == f.item) || on_table j fs))
placed_by true j e f fs gs d = refl
placed_by false j e f fs gs d = ap (λ (z : Bool). (j == f.item) || z) d ∙ swap_or (j == e.item) (j == f.item) (on_table j fs)

pub on_table-placed : (j : ℕ) (e : Entry) (es : List Entry) → on_table j (placed e es) ≡ ((j == e.item) || on_table j es)
on_table-placed j e [] = refl
on_table-placed j e (f ∷ fs) = placed_by (nat_lt e.due f.due) j e f fs (placed e fs) (on_table-placed j e fs)

off_by : (j k i : ℕ) (p q r s : Bool) → (j == k) ≡ p → (k == i) ≡ q → (j == i) ≡ r → cond (not q) (r || (not p && s)) (not p && s) ≡ (not p && (r || s))
off_by j k i true true r s a b c = refl
off_by j k i true false true s a b c = absurd (grind (arith, nat_tests))
off_by j k i true false false s a b c = refl
off_by j k i false true true s a b c = absurd (grind (arith, nat_tests))
off_by j k i false true false s a b c = refl
off_by j k i false false r s a b c = refl

on_by : (j : ℕ) (b : Bool) (f : Entry) (fs : List Entry) (r : Bool) → on_table j fs ≡ r → on_table j (cond b (f ∷ fs) fs) ≡ cond b ((j == f.item) || r) r
on_by j true f fs r is = ap (λ (z : Bool). (j == f.item) || z) is
on_by j false f fs r is = is

pub on_table-without : (j k : ℕ) (es : List Entry) → on_table j (without k es) ≡ (not (j == k) && on_table j es)
on_table-without j k [] = none (j == k)
  where
    none : (b : Bool) → false ≡ (not b && false)
    none true = refl
    none false = refl
on_table-without j k (f ∷ fs) =
    on_by j (not (k == f.item)) f (without k fs) _ (on_table-without j k fs)
    ∙ off_by j k f.item (j == k) (k == f.item) (j == f.item) (on_table j fs) refl refl refl

-- the order
pub ordered-placed : (e : Entry) (es : List Entry) → IsOrdered es → AreArmedBefore e.arming es → on_table e.item es ≡ false → IsOrdered (placed e es)
ordered-placed e [] ordered armed off = (tt, refl, tt)
ordered-placed e (f ∷ fs) ordered armed off = by (nat_lt e.due f.due) refl (ordered-placed e fs ordered.2 armed.1 (second_false _ _ off))
  where
    apart : (j k : ℕ) → (j == k) ≡ false → (k == j) ≡ false
    apart j k is = grind (arith, nat_tests)

    by : (b : Bool) → nat_lt e.due f.due ≡ b → IsOrdered (placed e fs) → IsOrdered (cond b (e ∷ f ∷ fs) (f ∷ placed e fs))
    by true is rest =
        let low : e.due < f.due = grind (arith, nat_tests) in
        let behind : AllByRecursion (IsBefore e) fs =
        all-more (IsBefore f) (IsBefore e) (λ g before. (omega (arith, before.0), λ same. absurd (omega (arith, before.0)))) fs ordered.0 in
        (((omega arith, λ same. absurd (omega arith)), behind), off, ordered)
    by false is rest =
        let low : f.due ≤ e.due = grind (arith, nat_tests) in (
          all-placed (IsBefore f) e fs (low, λ same. armed.0) ordered.0,
          on_table-placed f.item e fs ∙ (let off_item : (f.item == e.item) ≡ false = apart e.item f.item (first_false _ _ off) in rw off_item ordered.1),
          rest,
        )

-- a placed entry is one more
pub length_placed : (e : Entry) (es : List Entry) → length (placed e es) ≡ length es + 1
length_placed e [] = refl
length_placed e (f ∷ fs) = by (nat_lt e.due f.due) (length_placed e fs)
  where
    by : (b : Bool) → length (placed e fs) ≡ length fs + 1 → length (cond b (e ∷ f ∷ fs) (f ∷ placed e fs)) ≡ length (f ∷ fs) + 1
    by true is = omega arith
    by false is = omega arith

pub ordered-without : (k : ℕ) (es : List Entry) → IsOrdered es → IsOrdered (without k es)
ordered-without k [] ordered = tt
ordered-without k (f ∷ fs) ordered = by (not (k == f.item)) (ordered-without k fs ordered.2)
  where
    by : (b : Bool) → IsOrdered (without k fs) → IsOrdered (cond b (f ∷ without k fs) (without k fs))
    by true rest = (all-without (IsBefore f) k fs ordered.0, on_table-without f.item k fs ∙ and_right _ _ ordered.1, rest)
    by false rest = rest

-- an item that is not on it
pub without_off : (k : ℕ) (es : List Entry) → on_table k es ≡ false → without k es ≡ es
without_off k [] off = refl
without_off k (f ∷ fs) off =
    let is : (k == f.item) ≡ false = first_false _ _ off in
    rw is (ap (λ (z : List Entry). f ∷ z) (without_off k fs (second_false _ _ off)))

-- where the first is not due, none is
pub none_due : (t : ℕ) (e : Entry) (es : List Entry) → AllByRecursion (IsBefore e) es → t < e.due → due_part t es ≡ []
none_due t e [] before late = refl
none_due t e (f ∷ fs) before late =
    let no : nat_le f.due t ≡ false = let low : t < f.due = omega (arith, before.0.0) in grind (arith, nat_tests) in
    rw no (none_due t e fs before.1 late)

-- the first entry of the table
same_on : (k : ℕ) (b : Bool) → ((k == k) || b) ≡ true
same_on k b = let is : (k == k) ≡ true = grind (arith, nat_tests) in rw is refl

pub first_on : (es fs : List Entry) (e : Entry) → es ≡ e ∷ fs → on_table e.item es ≡ true
first_on es fs e is = ap (on_table e.item) is ∙ same_on e.item (on_table e.item fs)

pub without_first : (e : Entry) (fs : List Entry) → on_table e.item fs ≡ false → fs ≡ without e.item (e ∷ fs)
without_first e fs off = let is : (e.item == e.item) ≡ true = grind (arith, nat_tests) in rw is (sym (without_off e.item fs off))

-- a table in order is its due part and what is later
pub due_then_later : (t : ℕ) (es : List Entry) → IsOrdered es → es ≡ due_part t es ++ later_part t es
due_then_later t [] ordered = refl
due_then_later t (e ∷ es) ordered = by (nat_le e.due t) refl (due_then_later t es ordered.2)
  where
    by : (b : Bool) → nat_le e.due t ≡ b → es ≡ due_part t es ++ later_part t es
        → e ∷ es ≡ cond b (e ∷ due_part t es) (due_part t es) ++ cond (not b) (e ∷ later_part t es) (later_part t es)
    by true is rest = ap (λ (z : List Entry). e ∷ z) rest
    by false is rest =
        let late : t < e.due = grind (arith, nat_tests) in let none : due_part t es ≡ [] = none_due t e es ordered.0 late in
        ap (λ (z : List Entry). e ∷ z) (rest ∙ ap (λ (z : List Entry). z ++ later_part t es) none)
        ∙ ap (λ (z : List Entry). z ++ e ∷ later_part t es) (sym none)

pub first_due_part : (t : ℕ) (e : Entry) (es : List Entry) → e.due ≤ t → due_part t (e ∷ es) ≡ e ∷ due_part t es
first_due_part t e es due = let is : nat_le e.due t ≡ true = grind (arith, nat_tests) in rw is refl

pub first_later_part : (t : ℕ) (e : Entry) (es : List Entry) → e.due ≤ t → later_part t (e ∷ es) ≡ later_part t es
first_later_part t e es due = let is : nat_le e.due t ≡ true = grind (arith, nat_tests) in rw is refl
