-- How much stands in a row.
use Rattle.wq_delay.proofs.Common.{◌≡◌, ℕ, ◌<◌, ◌≤◌, Bool, true, false, ◌||◌, eqb, List, [], ◌∷◌, ◌++◌, map, length, nat_lt, ◌==◌}
use Rattle.wq_delay.proofs.Common.{Some, None, All, Option, sym, refl, ap, ◌∙◌, subst, arith, length-append, eqb-true, nat_tests, get_or_past}
use Rattle.wq_delay.proofs.Common.{length-map, All-head, All-tail, length-le_from_distinct_below, IsDistinct, Entry, on_table, items}
use Rattle.wq_delay.proofs.Common.{DuePlace, DueItem, place_in, AreOnTable, entry_at, entry_of, times, place_at, SaysPlace}
use Rattle.wq_delay.proofs.Rows.{apart_items, any_item}
use Rattle.wq_delay.proofs.Looking.{more_on_table}
use Rattle.wq_delay.proofs.Gathered.{no_times, times_first, no_more_times}

pub place_low : (places : List (Option DuePlace)) (k : ℕ) (p : DuePlace) → place_in places k ≡ Some p → k < length places
place_low places k p is = by (nat_lt k (length places)) refl
  where
    by : (b : Bool) → nat_lt k (length places) ≡ b → k < length places
    by true lt = grind (arith, nat_tests)
    by false ge = let high : length places ≤ k = grind (arith, nat_tests) in let none = get_or_past places k None high in absurd (cc)

on_low : (places : List (Option DuePlace)) (k : ℕ) (es : List Entry) → All (SaysPlace places) es
    → on_table k es ≡ true → k < length places
on_low places k [] valid on = absurd (cc)
on_low places k (f ∷ fs) valid on =
    by (k == f.item) refl on (λ rest. on_low places k fs (All-tail (SaysPlace places) f fs valid) rest)
  where
    by : (b : Bool) → (k == f.item) ≡ b → (b || on_table k fs) ≡ true → (on_table k fs ≡ true → k < length places) → k < length places
    by true is _ rest =
        let low = place_low places f.item (place_at f.due f.arming) (All-head (SaysPlace places) f fs valid) in
        subst (λ (z : ℕ). z < length places) (sym (eqb-true k f.item is)) low
    by false is on rest = rest on

single_distinct : (es : List Entry) → ((k : ℕ) → times k es ≤ 1) → IsDistinct eqb (items es)
unfolding IsDistinct
single_distinct [] single = tt
single_distinct (e ∷ es) single = (
  apart_items e.item es (no_times e.item es (let a = single e.item in let b = times_first e es in omega arith)),
  single_distinct es (λ k. let a = single k in let b = no_more_times k e es in omega arith),
)

few_rows : (places : List (Option DuePlace)) (es : List Entry) → AreOnTable places es → length es ≤ length places
few_rows places es on =
    let low = length-le_from_distinct_below (items es) (length places) (single_distinct es on.single)
    (λ k there. on_low places k es on.valid (sym (any_item k es) ∙ there)) in
    omega (arith, low, length-map es (λ e. e.item))

-- where an item of the table does not stand in it, a row has room for it
pub row_has_room : (places : List (Option DuePlace)) (es : List Entry) (k : ℕ) (p : DuePlace) → AreOnTable places es → on_table k es ≡ false
    → place_in places k ≡ Some p → length es < length places
row_has_room places es k p on off is =
    let few = few_rows places (es ++ entry_at p k ∷ []) (more_on_table places es k p on off is) in
    omega (arith, few, length-append es (entry_at p k ∷ []))

pub items_of_rows : (xs : List DueItem) → map (λ (e : DueItem). e.item) xs ≡ items (map entry_of xs)
items_of_rows [] = refl
items_of_rows (x ∷ xs) = ap (λ (z : List ℕ). x.item ∷ z) (items_of_rows xs)
