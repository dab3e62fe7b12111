-- A slot is looked at place by place, and what is due is moved to the row.
use Rattle.wq_delay.proofs.Common.{◌≡◌, ℕ, zero, suc, ◌+◌, ◌-◌, ◌%◌, ◌<◌, ◌≤◌, Bool, true, false, cond, ◌||◌, ◌≢◌, List, [], ◌∷◌, ◌++◌, length, get_or, set}
use Rattle.wq_delay.proofs.Common.{nat_lt, ◌==◌, slice_index, Some, None, All, Option, sym, refl, ap, ◌∙◌, subst, arith, nat_tests, get_or_read, All-push}
use Rattle.wq_delay.proofs.Common.{Entry, on_table, first_false, second_false, DuePlace, place_in, head_by, number_by, entry_at, times, SaysPlace, waiting}
use Rattle.wq_delay.proofs.Common.{AreOnTable, IsGathering, StillWaits, IsClean, AreRings, same_Some}
use Rattle.wq_delay.proofs.Rounds.{at_or}
use Rattle.wq_delay.proofs.Wheel.{wheel_without, item_low}
use mathlib.Core.Bool.{or-false}

pub less_number : (b : Bool) (o : Option DuePlace) → number_by (cond b None o) ≤ number_by o
less_number true o = omega arith
less_number false o = omega arith

-- an entry more at the end of the row
pub on_push : (j : ℕ) (es : List Entry) (e : Entry) → on_table j (es ++ e ∷ []) ≡ (on_table j es || (j == e.item))
on_push j [] e = or-false (j == e.item)
on_push j (f ∷ fs) e = by (j == f.item) (on_push j fs e)
  where
    by : (b : Bool) → on_table j (fs ++ e ∷ []) ≡ (on_table j fs || (j == e.item))
        → (b || on_table j (fs ++ e ∷ [])) ≡ ((b || on_table j fs) || (j == e.item))
    by true is = refl
    by false is = is

pub times_push : (j : ℕ) (es : List Entry) (e : Entry) → times j (es ++ e ∷ []) ≡ times j es + cond (j == e.item) 1 0
times_push j [] e = omega arith
times_push j (f ∷ fs) e = by (cond (j == f.item) 1 0) (times_push j fs e)
  where
    by : (n : ℕ) → times j (fs ++ e ∷ []) ≡ times j fs + cond (j == e.item) 1 0
        → n + times j (fs ++ e ∷ []) ≡ (n + times j fs) + cond (j == e.item) 1 0
    by n is = omega arith

pub times_off : (k : ℕ) (es : List Entry) → on_table k es ≡ false → times k es ≡ 0
times_off k [] off = refl
times_off k (f ∷ fs) off =
    let is : (k == f.item) ≡ false = first_false (k == f.item) (on_table k fs) off in
    let rest = times_off k fs (second_false (k == f.item) (on_table k fs) off) in rw is (omega arith)

-- an item of the table that does not stand in the row, put behind it
pub more_on_table : (places : List (Option DuePlace)) (es : List Entry) (k : ℕ) (p : DuePlace) → AreOnTable places es → on_table k es ≡ false
    → place_in places k ≡ Some p → AreOnTable places (es ++ entry_at p k ∷ [])
more_on_table places es k p on off is = record {
  valid = All-push (SaysPlace places) es (entry_at p k) on.valid is;
  single = λ j. at_or (λ z. times z (es ++ entry_at p k ∷ []) ≤ 1) k j
      (one (k == k) (times_push k es (entry_at p k)) (times_off k es off))
      (λ ne. same (j == k) (grind (arith, nat_tests)) (times_push j es (entry_at p k)) (on.single j));
}
  where
    one : {n m : ℕ} (b : Bool) → n ≡ m + cond b 1 0 → m ≡ 0 → n ≤ 1
    one true is none = omega arith
    one false is none = omega arith

    same : {n m : ℕ} (b : Bool) → b ≡ false → n ≡ m + cond b 1 0 → m ≤ 1 → n ≤ 1
    same true off is few = absurd (cc)
    same false off is few = omega arith

-- what waits stands on the table, and not in the row
pub waits_there : (places : List (Option DuePlace)) (row : List Entry) (k : ℕ) (p : DuePlace) → waiting places row k ≡ Some p
    → (on_table k row ≡ false) × (place_in places k ≡ Some p)
waits_there places row k p is = by (on_table k row) refl is
  where
    by : (b : Bool) → on_table k row ≡ b → cond b None (place_in places k) ≡ Some p → (on_table k row ≡ false) × (place_in places k ≡ Some p)
    by true on same = absurd (cc)
    by false off same = (off, same)

waits_not : (places : List (Option DuePlace)) (row : List Entry) (k : ℕ) → on_table k row ≡ true → waiting places row k ≡ None
waits_not places row k on = rw on refl

-- a number above those of all places
pub most : List (Option DuePlace) → ℕ
most [] = 0
most (o ∷ os) = number_by o + most os

pub number_most : (places : List (Option DuePlace)) (k : ℕ) → number_by (place_in places k) ≤ most places
unfolding most
number_most [] k = omega arith
number_most (o ∷ os) zero = omega arith
number_most (o ∷ os) (suc k) = let is = number_most os k in omega arith

-- how far the head of the slot is
pub steps_left : List (Option DuePlace) → ℕ → ℕ → ℕ
steps_left places head x = cond (x == head) 0 (most places + 1 - number_by (place_in places x))

pub steps_fewer : (places : List (Option DuePlace)) (head x y : ℕ) → x ≢ head
    → (y ≢ head → number_by (place_in places x) < number_by (place_in places y)) → steps_left places head y < steps_left places head x
unfolding steps_left
steps_fewer places head x y ne up =
    let apart : (x == head) ≡ false = grind (arith, nat_tests) in rw apart (by (y == head) refl)
  where
    by : (b : Bool) → (y == head) ≡ b → cond b 0 (most places + 1 - number_by (place_in places y)) < most places + 1 - number_by (place_in places x)
    by true is = let a = number_most places x in omega arith
    by false is =
        let far : y ≢ head = grind (arith, nat_tests) in let o = up far in let a = number_most places x in let b = number_most places y in omega arith

-- at the place x of the slot with this head, nothing that is due waits before it
pub record Looking (places : List (Option DuePlace)) (next previous : List ℕ) (start row : List Entry) (head now x : ℕ) : Type 0 where
  pub gathering : IsGathering places next previous row now
  pub fewer : StillWaits places start row
  pub low : x < length places + 256
  pub here : head_by (length places) x (waiting places row x) ≡ head
  pub done : (k : ℕ) (p : DuePlace) → waiting places row k ≡ Some p → length places + p.due % 256 ≡ head
      → (x ≢ head → p.arming + 1 < number_by (waiting places row x)) → now < p.due

module _ (places : List (Option DuePlace)) (next previous : List ℕ) (start row : List Entry) (head now : ℕ)
    (high : length places ≤ head) (low : head < length places + 256) where
  abbrev size : ℕ
  size = length places

  slot_item : (k : ℕ) (p : DuePlace) → waiting places row k ≡ Some p → head_by size k (waiting places row k) ≡ size + p.due % 256
  slot_item k p is = ap (head_by size k) is

  number_item : (k : ℕ) (p : DuePlace) → waiting places row k ≡ Some p → number_by (waiting places row k) ≡ p.arming + 1
  number_item k p is = ap number_by is

  starts : IsGathering places next previous row now → Looking places next previous row row head now (slice_index next head)
  starts g =
      let r = g.wheel.rings in
      let own : head_by size head (waiting places row head) ≡ head = ap (head_by size head) (g.wheel.heads head high) in
      let zero_is : number_by (waiting places row head) ≡ 0 = ap number_by (g.wheel.heads head high) in record {
        gathering = g;
        fewer = λ k p is. is;
        low = r.next_low head low;
        here = r.stays head low ∙ own;
        done = λ k p is slot below.
            let k_low = item_low g.wheel k p is in let e = number_item k p is in
            let near = r.nearest head k low (omega arith) (own ∙ (sym slot ∙ sym (slot_item k p is))) (omega arith) in
            let f = below (λ s. near.0 (s ∙ sym own)) in let o = near.1 in absurd (omega arith);
      }

  -- the next place is where it was read
  pub looking_init : IsGathering places next previous row now → (z : ℕ) → z ≡ get_or next head z → Looking places next previous row row head now z
  looking_init g z read =
      subst (λ (v : ℕ). Looking places next previous row row head now v)
      (sym (get_or_read next head z (omega (arith, g.wheel.next_length, low)) read 0)) (starts g)

  pub looking_end : (x : ℕ) → Looking places next previous start row head now x → x ≡ head → IsClean places row head now
  looking_end x l is k p at slot = l.done k p at slot (λ ne. absurd (ne is))

  -- a place that is not the head is an item that waits in the slot
  pub looking_item : (x : ℕ) → Looking places next previous start row head now x → x ≢ head
      → (p : DuePlace) × (waiting places row x ≡ Some p) × (size + p.due % 256 ≡ head)
  looking_item x l ne = by (waiting places row x) refl l.here
    where
      by : (o : Option DuePlace) → waiting places row x ≡ o → head_by size x o ≡ head
          → (p : DuePlace) × (waiting places row x ≡ Some p) × (size + p.due % 256 ≡ head)
      by None is at = absurd (ne at)
      by (Some p) is at = (p, is, at)

  module _ {x : ℕ} (l : Looking places next previous start row head now x) (ne : x ≢ head) where
    abbrev y : ℕ
    y = slice_index next x

    r : AreRings (slice_index next) (slice_index previous) (λ k. head_by size k (waiting places row k)) (λ k. number_by (waiting places row k)) (size + 256)
    r = l.gathering.wheel.rings

    abbrev q : DuePlace
    q = (looking_item x l ne).0

    q_is : waiting places row x ≡ Some q
    q_is = (looking_item x l ne).1

    y_here : head_by size y (waiting places row y) ≡ head
    y_here = r.stays x l.low ∙ l.here

    y_rises : y ≢ head → number_by (waiting places row x) < number_by (waiting places row y)
    y_rises far = r.rises x l.low (λ s. far (s ∙ l.here))

    pub y_other : y ≢ x
    y_other is = let e = ap (λ (z : ℕ). number_by (waiting places row z)) is in
        let f = y_rises (λ s. ne (sym is ∙ s)) in omega arith

    -- before the next place stands no more than before x, and x
    nothing_between : (k : ℕ) (p : DuePlace) → k ≢ x → waiting places row k ≡ Some p → size + p.due % 256 ≡ head
        → (y ≢ head → p.arming + 1 < number_by (waiting places row y)) → now < p.due
    nothing_between k p other is slot below =
        let k_low : k < size + 256 = let e = item_low l.gathering.wheel k p is in omega arith in
        let same : head_by size k (waiting places row k) ≡ head_by size x (waiting places row x) = slot_item k p is ∙ (slot ∙ sym l.here) in
        let e = number_item k p is in
        by (nat_lt (number_by (waiting places row x)) (number_by (waiting places row k)))
        (nat_lt (number_by (waiting places row k)) (number_by (waiting places row x)))
        refl refl k_low same
      where
        by : (b c : Bool) → nat_lt (number_by (waiting places row x)) (number_by (waiting places row k)) ≡ b
            → nat_lt (number_by (waiting places row k)) (number_by (waiting places row x)) ≡ c → k < size + 256
            → head_by size k (waiting places row k) ≡ head_by size x (waiting places row x) → now < p.due
        by true c up down k_low same =
            let e = number_item k p is in
            let near = r.nearest x k l.low k_low (sym same) (grind (arith, nat_tests)) in
            let f = below (λ s. near.0 (s ∙ sym l.here)) in let o = near.1 in absurd (omega arith)
        by false true up down k_low same =
            let e = number_item k p is in
            let less : number_by (waiting places row k) < number_by (waiting places row x) = grind (arith, nat_tests) in
            l.done k p is slot (λ _. omega arith)
        by false false up down k_low same =
            let equal : number_by (waiting places row k) ≡ number_by (waiting places row x) = grind (arith, nat_tests) in
            absurd (other (r.apart k x k_low l.low same equal))

    -- x is not due
    next_read : (z : ℕ) → z ≡ get_or next x z → z ≡ y
    next_read z read = get_or_read next x z (omega (arith, l.low, l.gathering.wheel.next_length)) read 0

    passes : (p : DuePlace) → place_in places x ≡ Some p → now < p.due → Looking places next previous start row head now y
    passes p at late = record {
      gathering = l.gathering;
      fewer = l.fewer;
      low = r.next_low x l.low;
      here = y_here;
      done = λ k o is slot below. at_or (λ z. waiting places row z ≡ Some o → now < o.due) x k
          (λ w. let e = same_Some p o (sym at ∙ (waits_there places row x o w).1) in let f = ap (λ (z : DuePlace). z.due) e in omega arith)
          (λ other w. nothing_between k o other w slot below) is;
    }

    pub looking_pass : {p : DuePlace} → place_in places x ≡ Some p → now < p.due → (z : ℕ) → z ≡ get_or next x z
        → Looking places next previous start row head now z
    looking_pass {p} at late z read =
        subst (λ (v : ℕ). Looking places next previous start row head now v) (sym (next_read z read)) (passes p at late)

    pub item_off : on_table x row ≡ false
    item_off = (waits_there places row x q q_is).0

    pub item_here : (x < size) × (place_in places x ≡ Some q)
    item_here = (item_low l.gathering.wheel x q q_is, (waits_there places row x q q_is).1)

    nearer : steps_left places head y < steps_left places head x
    nearer = steps_fewer places head x y ne
        (λ far. let c = ap number_by q_is in let d = ap number_by item_here.1 in let e = less_number (on_table y row) (place_in places y) in
        let up = y_rises far in omega arith)

    -- and so it is where the next was read
    pub nearer_read : (z : ℕ) → z ≡ get_or next x z → steps_left places head z < steps_left places head x
    nearer_read z read =
        subst (λ (w : ℕ). steps_left places head w < steps_left places head x)
        (sym (next_read z read)) nearer

    -- x is due, and is moved to the row
    module _ {p : DuePlace} (at : place_in places x ≡ Some p) (due : p.due ≤ now) {next' previous' : List ℕ} {row' : List Entry}
        (row_is : row' ≡ row ++ entry_at p x ∷ [])
        (next_is : next' ≡ set (set next (slice_index previous x) (slice_index next x)) x x)
        (previous_is : previous' ≡ set (set previous (slice_index next x) (slice_index previous x)) x x) where
      abbrev e : Entry
      e = entry_at p x

      on_row : (j : ℕ) → on_table j row' ≡ (on_table j row || (j == x))
      on_row j = ap (on_table j) row_is ∙ on_push j row e

      w_x : waiting places row' x ≡ None
      w_x = waits_not places row' x (on_row x ∙ ap (λ (z : Bool). z || (x == x)) item_off ∙ (grind (arith, nat_tests)))

      w_other : (j : ℕ) → j ≢ x → waiting places row' j ≡ waiting places row j
      w_other j other =
          let no : (j == x) ≡ false = grind (arith, nat_tests) in
          ap (λ (z : Bool). cond z None (place_in places j)) (on_row j ∙ (ap (λ (z : Bool). on_table j row || z) no ∙ or-false (on_table j row)))

      still : (k : ℕ) (o : DuePlace) → waiting places row' k ≡ Some o → (k ≢ x) × (waiting places row k ≡ Some o)
      still k o is = at_or (λ z. waiting places row' z ≡ Some o → (z ≢ x) × (waiting places row z ≡ Some o)) x k
          (λ w. absurd (let n = w_x in cc))
          (λ other w. (other, sym (w_other k other) ∙ w)) is

      stand : AreOnTable places row'
      stand = subst (AreOnTable places) (sym row_is) (more_on_table places row x p
          (record { valid = l.gathering.valid; single = l.gathering.single }) item_off at)

      moved : IsGathering places next' previous' row' now
      moved = record {
        wheel = wheel_without size next previous next' previous' (waiting places row) (waiting places row') x q l.gathering.wheel item_here.0
            q_is w_x w_other next_is previous_is;
        valid = stand.valid;
        due = subst (All (λ f. f.due ≤ now)) (sym row_is) (All-push (λ f. f.due ≤ now) row e l.gathering.due due);
        single = stand.single;
      }

      takes : Looking places next' previous' start row' head now y
      takes = record {
        gathering = moved;
        fewer = λ k o is. l.fewer k o (still k o is).1;
        low = r.next_low x l.low;
        here = ap (head_by size y) (w_other y y_other) ∙ y_here;
        done = λ k o is slot below. nothing_between k o (still k o is).0 (still k o is).1 slot
            (λ far. let b = below far in let m = ap number_by (w_other y y_other) in omega arith);
      }

      pub looking_take : (z : ℕ) → z ≡ get_or next x z → Looking places next' previous' start row' head now z
      looking_take z read = subst (λ (v : ℕ). Looking places next' previous' start row' head now v) (sym (next_read z read)) takes
