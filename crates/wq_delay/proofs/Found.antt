-- What is found at first is what stands in the row, and at last what is due.
use Rattle.wq_delay.proofs.Common.{◌≡◌, ℕ, ◌+◌, ◌-◌, ◌<◌, ◌≤◌, min, Bool, true, false, cond, ◌&&◌, ◌||◌, List, [], ◌∷◌, ◌++◌, map, take, drop, is_some, nat_lt}
use Rattle.wq_delay.proofs.Common.{nat_le, Some, None, All, filter, Option, sym, refl, ap, ◌∙◌, subst, mod-lt, arith, mod-le, nat_tests, take-append-drop}
use Rattle.wq_delay.proofs.Common.{All-filter, filter-append, Entry, due_part, on_table, DuePlace, DueItem, place_in, turn_of, AreFound, entry_of, times}
use Rattle.wq_delay.proofs.Common.{SaysPlace, entries_of, stands, is_due, AreDue, IsTimetable}
use Rattle.wq_delay.proofs.Table.{place_some}
use Rattle.wq_delay.proofs.Spelled.{entries_rows}
use Rattle.wq_delay.proofs.Gathered.{due_only, ordered_due, place_due, place_valid}
use Rattle.wq_delay.proofs.Leading.{kept_valid, ordered_single}
use mathlib.Core.Bool.{and-false}

filter_both : {X : Type 0} (p q : X → Bool) (xs : List X) → filter (λ x. p x && q x) xs ≡ filter p (filter q xs)
filter_both p q [] = refl
filter_both {X} p q (x ∷ xs) = by (p x) (q x) refl (filter_both p q xs)
  where
    by : (b c : Bool) → p x ≡ b → filter (λ x. p x && q x) xs ≡ filter p (filter q xs)
        → cond (b && c) (x ∷ filter (λ x. p x && q x) xs) (filter (λ x. p x && q x) xs) ≡ filter p (cond c (x ∷ filter q xs) (filter q xs))
    by true true is rest = rw is (ap (λ (z : List X). x ∷ z) rest)
    by false true is rest = rw is rest
    by true false is rest = rest
    by false false is rest = rest

due_rows : (t : ℕ) (xs : List DueItem) → map entry_of (filter (λ e. nat_le e.place.due t) xs) ≡ due_part t (map entry_of xs)
due_rows t [] = refl
due_rows t (x ∷ xs) = by (nat_le x.place.due t) (due_rows t xs)
  where
    by : (b : Bool) → map entry_of (filter (λ e. nat_le e.place.due t) xs) ≡ due_part t (map entry_of xs)
        → map entry_of (cond b (x ∷ filter (λ e. nat_le e.place.due t) xs) (filter (λ e. nat_le e.place.due t) xs))
        ≡ cond b (entry_of x ∷ due_part t (map entry_of xs)) (due_part t (map entry_of xs))
    by true rest = ap (λ (z : List Entry). entry_of x ∷ z) rest
    by false rest = rest

some_twice : (t now : ℕ) (p : DuePlace) (n : ℕ) → is_some (due_only now (due_only t (Some p))) ≡ (nat_le p.due now && (nat_le p.due t || nat_lt n 0))
some_twice t now p n =
    let none : nat_lt n 0 ≡ false = grind (arith, nat_tests) in
    by (nat_le p.due t) ∙ sym (ap (λ (z : Bool). nat_le p.due now && (nat_le p.due t || z)) none)
  where
    last : (b : Bool) → is_some (cond b (Some p) None) ≡ (b && true)
    last true = refl
    last false = refl

    by : (b : Bool) → is_some (due_only now (cond b (Some p) None)) ≡ (nat_le p.due now && (b || false))
    by true = last (nat_le p.due now)
    by false = sym (and-false (nat_le p.due now))

module _ {places : List (Option DuePlace)} {next previous : List ℕ} {row : List DueItem} {room front count tick : ℕ}
    (t : IsTimetable places next previous row room front count tick) (now : ℕ) where
  abbrev es : List Entry
  es = entries_of places

  abbrev early : DueItem → Bool
  early e = nat_le e.place.due now

  abbrev both : DueItem → Bool
  both e = early e && stands places e

  -- what stands before the front has left the row
  front_none : filter both (take front row) ≡ []
  front_none = filter_both early (stands places) (take front row) ∙ ap (filter early) t.passed

  whole : filter both (drop front row) ≡ filter early (filter (stands places) row)
  whole =
      ap (λ (z : List DueItem). z ++ filter both (drop front row)) (sym front_none)
      ∙ (sym (filter-append both (take front row) (drop front row))
      ∙ (ap (filter both) (take-append-drop front row) ∙ filter_both early (stands places) row))

  pub found_out : (out : List DueItem) → out ≡ filter both (drop front row) → AreFound places tick now 0 (map entry_of out)
  found_out out out_is =
      let rows = entries_rows places t.apart in
      let kept : List Entry = map entry_of (filter (stands places) row) in
      let by_rows : map entry_of out ≡ due_part now kept = ap (map entry_of) (out_is ∙ whole) ∙ due_rows now (filter (stands places) row) in
      let by_table : map entry_of out ≡ due_part now (due_part tick es) = by_rows ∙ ap (due_part now) t.due_is in
      let first = ordered_due tick es rows.ordered in record {
        on = record {
          valid = subst (All (SaysPlace places)) (sym by_rows)
              (All-filter (λ e. nat_le e.due now) (SaysPlace places) kept (kept_valid places row));
          single = λ k. subst (λ (z : List Entry). times k z ≤ 1) (sym by_table)
              (ordered_single k (due_part now (due_part tick es)) (ordered_due now (due_part tick es) first));
        };
        which = λ k p is. ap (on_table k) by_table ∙ (sym (place_some k (due_part now (due_part tick es)))
            ∙ (ap is_some (place_due now k (due_part tick es) first ∙ ap (due_only now) (place_due tick k es rows.ordered
            ∙ ap (due_only tick) (sym (rows.known k) ∙ is))) ∙ some_twice tick now p (turn_of tick p.due)));
      }

-- once the slots of all ticks up to now were gone through
pub found_due : (places : List (Option DuePlace)) (t now n : ℕ) (found : List Entry) → n ≡ min (now - t) 256 → AreFound places t now n found
    → AreDue places now found
found_due places t now n found n_is f = record { on = f.on; which = λ k. by k (place_in places k) refl }
  where
    off : (b : Bool) (o : Option DuePlace) → o ≡ None → is_some (cond b o None) ≡ b → b ≡ false
    off true o none is = absurd (cc)
    off false o none is = refl

    all : (p : DuePlace) (a b : Bool) → nat_le p.due now ≡ a → nat_le p.due t ≡ b → (a && (b || nat_lt (turn_of t p.due) n)) ≡ a
    all p false b u v = refl
    all p true true u v = refl
    all p true false u v =
        let late : t < p.due = grind (arith, nat_tests) in let soon : p.due ≤ now = grind (arith, nat_tests) in
        let less = mod-le (p.due - (t + 1)) 256 in let small = mod-lt (p.due - (t + 1)) {m = 256} (omega arith) in
        let low : turn_of t p.due < n = omega arith in grind (arith, nat_tests)

    by : (k : ℕ) (o : Option DuePlace) → place_in places k ≡ o → on_table k found ≡ is_due now o
    by k None is =
        off (on_table k found) (place_in places k) is (ap is_some (sym (place_valid places k found f.on.valid)) ∙ place_some k found)
    by k (Some p) is = f.which k p is ∙ all p (nat_le p.due now) (nat_le p.due t) refl refl
