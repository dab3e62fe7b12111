-- The places of the entries of a table.
use Rattle.std.proofs.lemmas.List.{get_or-set_same, get_or-set_other}
use Rattle.wq_delay.proofs.Common.{◌≡◌, ℕ, ◌<◌, ◌≤◌, Bool, true, false, cond, ◌||◌, eqb, List, [], ◌∷◌, length, get_or, set, is_some, nat_lt, ◌==◌, Some, None}
use Rattle.wq_delay.proofs.Common.{Option, sym, refl, ap, ◌∙◌, subst, arith, eqb-true, nat_tests, get_or_past, length-map, length-le_from_distinct_below}
use Rattle.wq_delay.proofs.Common.{IsDistinct, AllByRecursion, list_any, Entry, without, IsOrdered, on_table, items, placed, AreArmedBefore, first_false}
use Rattle.wq_delay.proofs.Common.{second_false, ordered-placed, ordered-without, DuePlace, entry_at, place_at, place_of, AreRows}
use Rattle.wq_delay.proofs.Table.{place_some, place_of-placed, place_of-without}

-- a key of no row from here on is below the next arming
pub below_place : (n k : ℕ) (key : DuePlace) (es : List Entry) → AreArmedBefore n es → place_of k es ≡ Some key → key.arming < n
below_place n k key [] armed is = absurd (cc)
below_place n k key (f ∷ fs) armed is = by (k == f.item) (below_place n k key fs armed.1) is
  where
    by : (b : Bool) → (place_of k fs ≡ Some key → key.arming < n) → cond b (Some (place_at f.due f.arming)) (place_of k fs) ≡ Some key → key.arming < n
    by true rest same = let q : f.arming ≡ key.arming = cc in omega (arith, armed.0)
    by false rest same = rest same

-- the places, once the item k has another
set_at : {X : Type 0} (xs : List X) (k j : ℕ) (v d : X) → k < length xs → get_or (set xs k v) j d ≡ cond (j == k) v (get_or xs j d)
set_at xs k j v d low = by (j == k) refl
  where
    by : (b : Bool) → (j == k) ≡ b → get_or (set xs k v) j d ≡ cond b v (get_or xs j d)
    by true is = rw (eqb-true j k is) (get_or-set_same xs k v d low)
    by false is = get_or-set_other xs k j v d (grind (arith, nat_tests))

pub rows_placed : (places : List (Option DuePlace)) (es fs : List Entry) (k due arming : ℕ) → AreRows places es → k < length places
    → on_table k es ≡ false → AreArmedBefore arming es
    → fs ≡ placed (entry_at (place_at due arming) k) es → AreRows (set places k (Some (place_at due arming))) fs
rows_placed places es fs k due arming rows low off armed is = subst (AreRows (set places k (Some (place_at due arming)))) (sym is) (record {
  ordered = ordered-placed (entry_at (place_at due arming) k) es rows.ordered armed off;
  known = λ j. set_at places k j (Some (place_at due arming)) None low
      ∙ (ap (cond (j == k) (Some (place_at due arming))) (rows.known j) ∙ sym (place_of-placed j (entry_at (place_at due arming) k) es off));
})

pub rows_without : (places : List (Option DuePlace)) (es fs : List Entry) (k : ℕ) → AreRows places es → k < length places
    → fs ≡ without k es → AreRows (set places k None) fs
rows_without places es fs k rows low is = subst (AreRows (set places k None)) (sym is) (record {
  ordered = ordered-without k es rows.ordered;
  known = λ j. set_at places k j None None low ∙ (ap (cond (j == k) None) (rows.known j) ∙ sym (place_of-without j k es));
})

pub known_on : (places : List (Option DuePlace)) (es : List Entry) (k : ℕ) → AreRows places es → is_some (get_or places k None) ≡ on_table k es
known_on places es k rows = ap is_some (rows.known k) ∙ place_some k es

-- an item on the table has a place
pub in_places : (places : List (Option DuePlace)) (es : List Entry) (k : ℕ) → AreRows places es → on_table k es ≡ true → k < length places
in_places places es k rows on = by (nat_lt k (length places)) refl
  where
    by : (b : Bool) → nat_lt k (length places) ≡ b → k < length places
    by true is = grind (arith, nat_tests)
    by false is =
        let high : length places ≤ k = grind (arith, nat_tests) in
        let none : get_or places k None ≡ None = get_or_past places k None high in
        let some = known_on places es k rows in absurd (cc (ap is_some none))

-- no item stands twice, so there are no more than places
pub apart_items : (k : ℕ) (es : List Entry) → on_table k es ≡ false → AllByRecursion (λ y. (k == y) ≡ false) (items es)
apart_items k [] off = tt
apart_items k (f ∷ fs) off = (first_false _ _ off, apart_items k fs (second_false _ _ off))

distinct_items : (es : List Entry) → IsOrdered es → IsDistinct eqb (items es)
unfolding IsDistinct
distinct_items [] ordered = tt
distinct_items (e ∷ es) ordered = (apart_items e.item es ordered.1, distinct_items es ordered.2)

pub any_item : (k : ℕ) (es : List Entry) → list_any (eqb k) (items es) ≡ on_table k es
any_item k [] = refl
any_item k (f ∷ fs) = ap (λ (z : Bool). (k == f.item) || z) (any_item k fs)

pub length-le-places : (places : List (Option DuePlace)) (es : List Entry) → AreRows places es → length es ≤ length places
length-le-places places es rows =
    let low = length-le_from_distinct_below (items es) (length places) (distinct_items es rows.ordered)
    (λ k on. in_places places es k rows (sym (any_item k es) ∙ on)) in
    omega (arith, low, length-map es (λ e. e.item))
