-- The table that a list of places spells.
use Rattle.wq_delay.proofs.Common.{◌≡◌, ℕ, zero, suc, ◌+◌, ◌-◌, ◌<◌, Bool, true, false, cond, ◌≢◌, List, [], ◌∷◌, is_some, nat_lt, ◌==◌, Some, None, Option}
use Rattle.wq_delay.proofs.Common.{sym, refl, ap, ◌∙◌, subst, arith, eqb-true, nat_tests, AllByRecursion, Entry, IsOrdered, on_table, IsBefore, all-more}
use Rattle.wq_delay.proofs.Common.{first_false, second_false, all_by, DuePlace, place_in, entry_at, place_at, entries_of, place_of, AreApart, AreRows, same_Some}
use Rattle.wq_delay.specs.Rows.{is_before, slotted, with_place, entries_from}
use Rattle.wq_delay.proofs.Table.{place_some, put_by}
use Rattle.wq_words.proofs.Cases.{none_told}

pub place_off : (k : ℕ) (es : List Entry) → on_table k es ≡ false → place_of k es ≡ None
place_off k es off = none_told (place_of k es) (place_some k es ∙ off)

pub off_place : (k : ℕ) (es : List Entry) → place_of k es ≡ None → on_table k es ≡ false
off_place k es none = sym (place_some k es) ∙ ap is_some none

pub place_first : (e : Entry) (es : List Entry) → place_of e.item (e ∷ es) ≡ Some (place_at e.due e.arming)
place_first e es = let is : (e.item == e.item) ≡ true = grind (arith, nat_tests) in rw is refl

pub place_behind : (k : ℕ) (e : Entry) (es : List Entry) → (k == e.item) ≡ false → place_of k (e ∷ es) ≡ place_of k es
place_behind k e es is = rw is refl

-- an entry stands before the place of an item behind it
pub before_place : (k : ℕ) (key : DuePlace) (e : Entry) (es : List Entry) → AllByRecursion (IsBefore e) es → place_of k es ≡ Some key
    → IsBefore e (entry_at key k)
before_place k key e [] before is = absurd (cc)
before_place k key e (f ∷ fs) before is = by (k == f.item) (before_place k key e fs before.1) is
  where
    by : (b : Bool) → (place_of k fs ≡ Some key → IsBefore e (entry_at key k))
        → cond b (Some (place_at f.due f.arming)) (place_of k fs) ≡ Some key → IsBefore e (entry_at key k)
    by true rest same = let p : f.due ≡ key.due = cc in let q : f.arming ≡ key.arming = cc in
        (omega (arith, before.0.0), λ dues. let r = before.0.1 (omega arith) in omega arith)
    by false rest same = rest same

-- two tables in order that give each item one place are one
same_first : (e f : Entry) (es fs : List Entry) → AllByRecursion (IsBefore e) es → AllByRecursion (IsBefore f) fs
    → ((k : ℕ) → place_of k (e ∷ es) ≡ place_of k (f ∷ fs)) → e ≡ f
same_first e f es fs p q same = by (e.item == f.item) refl
  where
    there : place_of e.item (f ∷ fs) ≡ Some (place_at e.due e.arming)
    there = sym (same e.item) ∙ place_first e es

    here : place_of f.item (e ∷ es) ≡ Some (place_at f.due f.arming)
    here = same f.item ∙ place_first f fs

    by : (b : Bool) → (e.item == f.item) ≡ b → e ≡ f
    by true is =
        let k : e.item ≡ f.item = eqb-true e.item f.item is in
        let at = same_Some (place_at f.due f.arming) (place_at e.due e.arming)
        (sym (place_first f fs) ∙ (ap (λ (z : ℕ). place_of z (f ∷ fs)) (sym k) ∙ there)) in
        let d : e.due ≡ f.due = sym (ap (λ (z : DuePlace). z.due) at) in let a : e.arming ≡ f.arming = sym (ap (λ (z : DuePlace). z.arming) at) in
        λ i. record { due = d i; arming = a i; item = k i }
    by false is =
        let other : (f.item == e.item) ≡ false = grind (arith, nat_tests) in
        let first = before_place e.item (place_at e.due e.arming) f fs q (sym (place_behind e.item f fs is) ∙ there) in
        let second = before_place f.item (place_at f.due f.arming) e es p (sym (place_behind f.item e es other) ∙ here) in
        let x = first.1 (omega (arith, first.0, second.0)) in let y = second.1 (omega (arith, first.0, second.0)) in absurd (omega arith)

same_rest : (k : ℕ) (e f : Entry) (es fs : List Entry) → e ≡ f → on_table e.item es ≡ false → on_table f.item fs ≡ false
    → place_of k (e ∷ es) ≡ place_of k (f ∷ fs) → place_of k es ≡ place_of k fs
same_rest k e f es fs is off away same = by (k == e.item) refl
  where
    by : (b : Bool) → (k == e.item) ≡ b → place_of k es ≡ place_of k fs
    by true at =
        let i : k ≡ e.item = eqb-true k e.item at in let j : k ≡ f.item = i ∙ ap (λ (z : Entry). z.item) is in
        place_off k es (subst (λ (z : ℕ). on_table z es ≡ false) (sym i) off)
        ∙ sym (place_off k fs (subst (λ (z : ℕ). on_table z fs ≡ false) (sym j) away))
    by false at = sym (place_behind k e es at) ∙ (same ∙ place_behind k f fs (ap (λ (z : Entry). k == z.item) (sym is) ∙ at))

pub same_entries : (es fs : List Entry) → IsOrdered es → IsOrdered fs → ((k : ℕ) → place_of k es ≡ place_of k fs) → es ≡ fs
same_entries [] [] p q same = refl
same_entries [] (f ∷ fs) p q same = let e = same f.item ∙ place_first f fs in absurd (cc)
same_entries (e ∷ es) [] p q same = let f = sym (same e.item) ∙ place_first e es in absurd (cc)
same_entries (e ∷ es) (f ∷ fs) p q same =
    let is : e ≡ f = same_first e f es fs p.0 q.0 same in
    let rest : es ≡ fs = same_entries es fs p.2 q.2 (λ k. same_rest k e f es fs is p.1 q.1 (same k)) in
    λ i. is i ∷ rest i

-- what holds of each place holds of each entry
pub all_by_places : (P : Entry → Type 0) (es : List Entry) → IsOrdered es
    → ((k : ℕ) (p : DuePlace) → place_of k es ≡ Some p → P (entry_at p k)) → AllByRecursion P es
all_by_places P [] ordered each = tt
all_by_places P (e ∷ es) ordered each = (
  each e.item (place_at e.due e.arming) (place_first e es),
  all_by_places P es ordered.2 (λ k p is. each k p (place_behind k e es (apart k p is) ∙ is)),
)
  where
    apart : (k : ℕ) (p : DuePlace) → place_of k es ≡ Some p → (k == e.item) ≡ false
    apart k p is = by (k == e.item) refl
      where
        by : (b : Bool) → (k == e.item) ≡ b → (k == e.item) ≡ false
        by false at = at
        by true at =
            let off = place_off k es (subst (λ (z : ℕ). on_table z es ≡ false) (sym (eqb-true k e.item at)) ordered.1) in absurd (cc)

-- an entry that was put among them
pub place_of-slotted : (j : ℕ) (e : Entry) (es : List Entry) → on_table e.item es ≡ false
    → place_of j (slotted e es) ≡ cond (j == e.item) (Some (place_at e.due e.arming)) (place_of j es)
place_of-slotted j e [] off = refl
place_of-slotted j e (f ∷ fs) off =
    put_by (is_before e f) j e f fs (slotted e fs) (first_false _ _ off) (place_of-slotted j e fs (second_false _ _ off))

all_slotted : (P : Entry → Type 0) (e : Entry) (es : List Entry) → P e → AllByRecursion P es → AllByRecursion P (slotted e es)
all_slotted P e [] p all = (p, tt)
all_slotted P e (f ∷ fs) p all = all_by P (is_before e f) e (f ∷ fs) (f ∷ slotted e fs) p all (all.0, all_slotted P e fs p all.1)

ordered_slotted : (e : Entry) (es : List Entry) → IsOrdered es → on_table e.item es ≡ false → AllByRecursion (λ f. e.arming ≢ f.arming) es
    → IsOrdered (slotted e es)
ordered_slotted e [] ordered off apart = (tt, refl, tt)
ordered_slotted e (f ∷ fs) ordered off apart = by (is_before e f) refl (ordered_slotted e fs ordered.2 (second_false _ _ off) apart.1)
  where
    before : is_before e f ≡ true → IsBefore e f
    before is = grind (arith, nat_tests)

    after : is_before e f ≡ false → IsBefore f e
    after is = let a = apart.0 in (grind (arith, nat_tests), λ same. grind (arith, nat_tests))

    away : on_table f.item (slotted e fs) ≡ false
    away =
        let other : (f.item == e.item) ≡ false = let o : (e.item == f.item) ≡ false = first_false (e.item == f.item)
        (on_table e.item fs) off in grind (arith, nat_tests) in
        off_place f.item (slotted e fs) (place_of-slotted f.item e fs (second_false (e.item == f.item) (on_table e.item fs) off)
        ∙ (ap (λ (z : Bool). cond z (Some (place_at e.due e.arming)) (place_of f.item fs)) other ∙ place_off f.item fs ordered.1))

    by : (b : Bool) → is_before e f ≡ b → IsOrdered (slotted e fs) → IsOrdered (cond b (e ∷ f ∷ fs) (f ∷ slotted e fs))
    by true is rest =
        let low = before is in (
          (
            low,
            all-more (IsBefore f) (IsBefore e) (λ g b. (
              omega (arith, b.0, low.0),
              λ s. let x = low.1 (omega (arith, b.0, low.0)) in let y = b.1 (omega (arith, b.0, low.0)) in omega arith,
            )) fs ordered.0,
          ),
          off,
          ordered,
        )
    by false is rest = (all_slotted (IsBefore f) e fs (after is) ordered.0, away, rest)

-- the entries of a list of places
pub record SpellsEntries (i : ℕ) (os : List (Option DuePlace)) (es : List Entry) : Type 0 where
  pub ordered : IsOrdered es
  pub from : (j k : ℕ) → j ≡ i + k → place_of j es ≡ place_in os k
  pub below : (j : ℕ) → j < i → place_of j es ≡ None

spells_more : (i : ℕ) (o : Option DuePlace) (os : List (Option DuePlace)) (es : List Entry) → AreApart (o ∷ os) → SpellsEntries (i + 1) os es
    → SpellsEntries i (o ∷ os) (with_place i o es)
spells_more i None os es apart s = record {
  ordered = s.ordered;
  from = λ j k is. at j k is;
  below = λ j low. s.below j (omega arith);
}
  where
    at : (j k : ℕ) → j ≡ i + k → place_of j es ≡ place_in (None ∷ os) k
    at j zero is = s.below j (omega arith)
    at j (suc k) is = s.from j k (omega arith)
spells_more i (Some p) os es apart s = record {
  ordered = ordered_slotted e es s.ordered off (all_by_places (λ f. p.arming ≢ f.arming) es s.ordered other);
  from = λ j k is. place_of-slotted j e es off ∙ at j k is;
  below = λ j low. place_of-slotted j e es off ∙ (let ne : (j == i) ≡ false = grind (arith, nat_tests) in rw ne (s.below j (omega arith)));
}
  where
    e : Entry
    e = entry_at p i

    off : on_table i es ≡ false
    off = off_place i es (s.below i (omega arith))

    other : (k : ℕ) (q : DuePlace) → place_of k es ≡ Some q → p.arming ≢ q.arming
    other k q is same = by (nat_lt i k) refl
      where
        by : (b : Bool) → nat_lt i k ≡ b → ⊥
        by true is_high =
            let high : i < k = grind (arith, nat_tests) in
            let at = s.from k (k - (i + 1)) (omega arith) in
            let zero_is = apart 0 (suc (k - (i + 1))) p q refl (sym at ∙ is) same in absurd (omega arith)
        by false is_low = let low : k < i + 1 = grind (arith, nat_tests) in let none = s.below k low in absurd (cc)

    at : (j k : ℕ) → j ≡ i + k → cond (j == i) (Some p) (place_of j es) ≡ place_in (Some p ∷ os) k
    at j zero is = let e : (j == i) ≡ true = grind (arith, nat_tests) in rw e refl
    at j (suc k) is = let e : (j == i) ≡ false = grind (arith, nat_tests) in rw e (s.from j k (omega arith))

spells : (i : ℕ) (os : List (Option DuePlace)) → AreApart os → SpellsEntries i os (entries_from i os)
spells i [] apart = record { ordered = tt; from = λ j k is. refl; below = λ j low. refl }
spells i (o ∷ os) apart =
    spells_more i o os (entries_from (i + 1) os) apart
    (spells (i + 1) os (λ j k p q a b e. let s = apart (suc j) (suc k) p q a b e in omega arith))

pub entries_rows : (places : List (Option DuePlace)) → AreApart places → AreRows places (entries_of places)
entries_rows places apart = let s = spells 0 places apart in record {
  ordered = s.ordered;
  known = λ k. sym (s.from k k (omega arith));
}

pub entries_is : (places : List (Option DuePlace)) (es : List Entry) → AreApart places → AreRows places es → entries_of places ≡ es
entries_is places es apart rows =
    let own = entries_rows places apart in
    same_entries (entries_of places) es own.ordered rows.ordered (λ k. sym (own.known k) ∙ rows.known k)
