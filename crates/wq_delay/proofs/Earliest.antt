-- The ticks before which nothing of a slot is due: how a slot's ring gives one, and that they are so after each call.
use Rattle.wq_delay.proofs.Common.{◌≡◌, ℕ, ◌+◌, ◌%◌, ◌<◌, ◌≤◌, min, Bool, true, false, cond, ◌&&◌, ◌||◌, ◌≢◌, List, length, get_or, set, nat_lt, nat_le}
use Rattle.wq_delay.proofs.Common.{◌==◌, slice_index, Some, None, All, Option, sym, refl, ap, ◌∙◌, subst, mod-lt, arith, nat_tests, get_or_read, get_or-set_same}
use Rattle.wq_delay.proofs.Common.{get_or-set_other, length-set, Entry, on_table, DuePlace, place_at, place_in, head_by, number_by, later_than, turn_of, SaysPlace}
use Rattle.wq_delay.proofs.Common.{is_due, waiting, IsWheel, IsGathering, AreFound, StillWaits, IsClean, AreEarliest, WaitFrom, AreRings, same_Some}
use Rattle.wq_delay.proofs.Rounds.{at_or}
use Rattle.wq_delay.proofs.Standing.{later_same, later_some}
use Rattle.wq_delay.proofs.Looking.{waits_there, steps_left, steps_fewer, less_number}
use Rattle.wq_delay.proofs.Finding.{turn_slot}
use Rattle.wq_delay.proofs.Leading.{row_due}
use Rattle.wq_delay.proofs.Wheel.{item_low}

-- at the place x of the slot with this head, what waits before it is due at the tick t or later
pub record Passing (places : List (Option DuePlace)) (row : List Entry) (head t x : ℕ) : Type 0 where
  pub low : x < length places + 256
  pub here : head_by (length places) x (waiting places row x) ≡ head
  pub done : (k : ℕ) (p : DuePlace) → waiting places row k ≡ Some p → length places + p.due % 256 ≡ head
      → (x ≢ head → p.arming + 1 < number_by (waiting places row x)) → t ≤ p.due

module _ (places : List (Option DuePlace)) (next previous : List ℕ) (row : List Entry) (head : ℕ)
    (high : length places ≤ head) (low : head < length places + 256)
    (wheel : IsWheel (length places) next previous (waiting places row)) where
  abbrev size : ℕ
  size = length places

  abbrev w : ℕ → Option DuePlace
  w k = waiting places row k

  r : AreRings (slice_index next) (slice_index previous) (λ k. head_by size k (w k)) (λ k. number_by (w k)) (size + 256)
  r = wheel.rings

  head_own : head_by size head (w head) ≡ head
  head_own = ap (head_by size head) (wheel.heads head high)

  slot_item : (k : ℕ) (p : DuePlace) → w k ≡ Some p → head_by size k (w k) ≡ size + p.due % 256
  slot_item k p is = ap (head_by size k) is

  number_item : (k : ℕ) (p : DuePlace) → w k ≡ Some p → number_by (w k) ≡ p.arming + 1
  number_item k p is = ap number_by is

  starts : (t : ℕ) → Passing places row head t (slice_index next head)
  starts t = record {
    low = r.next_low head low;
    here = r.stays head low ∙ head_own;
    done = λ k p is slot below.
        let k_low = item_low wheel k p is in let e = number_item k p is in let zero_is : number_by (w head) ≡ 0 = ap number_by (wheel.heads head high) in
        let near = r.nearest head k low (omega arith) (head_own ∙ (sym slot ∙ sym (slot_item k p is))) (omega arith) in
        let f = below (λ s. near.0 (s ∙ sym head_own)) in let o = near.1 in absurd (omega arith);
  }

  -- the next place is where it was read
  pub passing_init : (t z : ℕ) → z ≡ get_or next head z → Passing places row head t z
  passing_init t z read =
      subst (λ (v : ℕ). Passing places row head t v) (sym (get_or_read next head z (omega (arith, wheel.next_length, low)) read 0)) (starts t)

  pub passing_end : (t x : ℕ) → Passing places row head t x → x ≡ head → WaitFrom places row head t
  passing_end t x l is k p at slot = l.done k p at slot (λ ne. absurd (ne is))

  module _ {t x : ℕ} (l : Passing places row head t x) (ne : x ≢ head) where
    abbrev y : ℕ
    y = slice_index next x

    -- a place that is not the head is an item that waits in the slot
    pub x_item : (p : DuePlace) × (w x ≡ Some p)
    x_item = by (w x) refl l.here
      where
        by : (o : Option DuePlace) → w x ≡ o → head_by size x o ≡ head → (p : DuePlace) × (w x ≡ Some p)
        by None is at = absurd (ne at)
        by (Some p) is at = (p, is)

    abbrev q : DuePlace
    q = x_item.0

    pub passing_here : (x < size) × (place_in places x ≡ Some q)
    passing_here = (item_low wheel x q x_item.1, (waits_there places row x q x_item.1).1)

    y_here : head_by size y (w y) ≡ head
    y_here = r.stays x l.low ∙ l.here

    y_rises : y ≢ head → number_by (w x) < number_by (w y)
    y_rises far = r.rises x l.low (λ s. far (s ∙ l.here))

    -- before the next place stands no more than before x, and x
    between : (s : ℕ) → s ≤ t → (k : ℕ) (p : DuePlace) → k ≢ x → w k ≡ Some p → size + p.due % 256 ≡ head
        → (y ≢ head → p.arming + 1 < number_by (w y)) → s ≤ p.due
    between s less k p other is slot below =
        let k_low : k < size + 256 = let e = item_low wheel k p is in omega arith in
        let same : head_by size k (w k) ≡ head_by size x (w x) = slot_item k p is ∙ (slot ∙ sym l.here) in
        by (nat_lt (number_by (w x)) (number_by (w k))) (nat_lt (number_by (w k)) (number_by (w x))) refl refl k_low same
      where
        by : (b c : Bool) → nat_lt (number_by (w x)) (number_by (w k)) ≡ b → nat_lt (number_by (w k)) (number_by (w x)) ≡ c → k < size + 256
            → head_by size k (w k) ≡ head_by size x (w x) → s ≤ p.due
        by true c up down k_low same =
            let e = number_item k p is in
            let near = r.nearest x k l.low k_low (sym same) (grind (arith, nat_tests)) in
            let f = below (λ v. near.0 (v ∙ sym l.here)) in let o = near.1 in absurd (omega arith)
        by false true up down k_low same =
            let e = number_item k p is in let less_than : number_by (w k) < number_by (w x) = grind (arith, nat_tests) in
            let d : t ≤ p.due = l.done k p is slot (λ _. omega arith) in omega arith
        by false false up down k_low same =
            let equal : number_by (w k) ≡ number_by (w x) = grind (arith, nat_tests) in absurd (other (r.apart k x k_low l.low same equal))

    next_read : (z : ℕ) → z ≡ get_or next x z → z ≡ y
    next_read z read = get_or_read next x z (omega (arith, l.low, wheel.next_length)) read 0

    -- the lesser of the tick so far and that of x
    pub passing_more : (s : ℕ) (p : DuePlace) → place_in places x ≡ Some p → s ≡ min t p.due → (z : ℕ) → z ≡ get_or next x z
        → Passing places row head s z
    passing_more s p at s_is z read =
        let less : s ≤ t = omega arith in let early : s ≤ p.due = omega arith in
        subst (λ (v : ℕ). Passing places row head s v) (sym (next_read z read)) (record {
          low = r.next_low x l.low;
          here = y_here;
          done = λ k o is slot below. at_or (λ v. w v ≡ Some o → s ≤ o.due) x k
              (λ here. let e = same_Some p o (sym at ∙ (waits_there places row x o here).1) in let f = ap (λ (v : DuePlace). v.due) e in omega arith)
              (λ other there. between s less k o other there slot below) is;
        })

    -- and the head is nearer there
    pub passing_nearer : (z : ℕ) → z ≡ get_or next x z → steps_left places head z < steps_left places head x
    passing_nearer z read =
        subst (λ (v : ℕ). steps_left places head v < steps_left places head x) (sym (next_read z read)) (steps_fewer places head x y ne
        (λ far. let c = ap number_by x_item.1 in let d = ap number_by passing_here.1 in let e = less_number (on_table y row) (place_in places y) in
        let up = y_rises far in omega arith))

-- what still waits waited before
earliest_fewer : (earliest : List ℕ) (w w' : ℕ → Option DuePlace) → AreEarliest earliest w
    → ((k : ℕ) (p : DuePlace) → w' k ≡ Some p → w k ≡ Some p) → AreEarliest earliest w'
earliest_fewer earliest w w' a fewer = record { slots = a.slots; early = λ k p is. a.early k p (fewer k p is) }

module _ (earliest : List ℕ) (places : List (Option DuePlace)) (row : List Entry) (a : AreEarliest earliest (waiting places row)) (slot : ℕ) where
  -- a slot that is passed over
  pub clean_passed : (v now : ℕ) → slot < 256 → v ≡ get_or earliest slot v → now < v → IsClean places row (length places + slot) now
  clean_passed v now low read late k p is at =
      let v_is : v ≡ slice_index earliest slot = get_or_read earliest slot v (let e = a.slots in omega arith) read 0 in
      let same : p.due % 256 ≡ slot = omega arith in
      let f : slice_index earliest slot ≤ p.due = subst (λ (z : ℕ). slice_index earliest z ≤ p.due) same (a.early k p is) in
      let g : v ≤ p.due = subst (λ (z : ℕ). z ≤ p.due) (sym v_is) f in omega arith

  -- a slot that was looked at
  pub earliest_looked : (row' : List Entry) (t : ℕ) → slot < 256 → StillWaits places row row' → WaitFrom places row' (length places + slot) t
      → AreEarliest (set earliest slot t) (waiting places row')
  earliest_looked row' t low fewer from = record {
    slots = length-set earliest slot t ∙ a.slots;
    early = λ k p is. at_or (λ z. z ≡ p.due % 256 → slice_index (set earliest slot t) z ≤ p.due) slot (p.due % 256)
        (λ same. subst (λ (z : ℕ). z ≤ p.due) (sym (get_or-set_same earliest slot t 0 (let e = a.slots in omega arith)))
        (from k p is (ap (λ (z : ℕ). length places + z) (sym same))))
        (λ other same. subst (λ (z : ℕ). z ≤ p.due) (sym (get_or-set_other earliest slot (p.due % 256) t 0 other)) (a.early k p (fewer k p is))) refl;
  }

-- what is found where a slot is passed over
pub found_passed : (places : List (Option DuePlace)) (earliest : List ℕ) (t now n : ℕ) (es : List Entry) → n < 256
    → AreEarliest earliest (λ k. later_than t (place_in places k)) → now < slice_index earliest ((t + 1 + n) % 256)
    → AreFound places t now n es → AreFound places t now (n + 1) es
found_passed places earliest t now n es small a late f = record {
  on = f.on;
  which = λ k p is. f.which k p is ∙ by k p is (nat_le p.due now) (nat_le p.due t) (turn_of t p.due == n) refl refl refl;
}
  where
    by : (k : ℕ) (p : DuePlace) → place_in places k ≡ Some p → (b c d : Bool)
        → nat_le p.due now ≡ b → nat_le p.due t ≡ c → (turn_of t p.due == n) ≡ d
        → (b && (c || nat_lt (turn_of t p.due) n)) ≡ (b && (c || nat_lt (turn_of t p.due) (n + 1)))
    by k p is false c d u v x = refl
    by k p is true true d u v x = refl
    by k p is true false true u v x =
        let behind : t < p.due = grind (arith, nat_tests) in let turn : turn_of t p.due ≡ n = grind (arith, nat_tests) in
        let slot : p.due % 256 ≡ (t + 1 + n) % 256 = turn_slot t n p.due behind turn in
        let waits : later_than t (place_in places k) ≡ Some p = ap (later_than t) is ∙ later_some t p behind in
        let e : slice_index earliest ((t + 1 + n) % 256) ≤ p.due = subst (λ (z : ℕ). slice_index earliest z ≤ p.due) slot (a.early k p waits) in
        let early : p.due ≤ now = grind (arith, nat_tests) in absurd (omega arith)
    by k p is true false false u v x = more (turn_of t p.due) x (nat_lt (turn_of t p.due) n) refl
      where
        more : (m : ℕ) → (m == n) ≡ false → (b : Bool) → nat_lt m n ≡ b → b ≡ nat_lt m (n + 1)
        more m ne true less = sym (grind (arith, nat_tests))
        more m ne false less = sym (grind (arith, nat_tests))

-- an item is put into its slot
module _ (earliest earliest' : List ℕ) (places : List (Option DuePlace)) (tick k due arming : ℕ)
    (a : AreEarliest earliest (λ j. later_than tick (place_in places j))) (low : k < length places)
    (is : earliest' ≡ set earliest (due % 256) (min (slice_index earliest (due % 256)) due)) where
  abbrev v : Option DuePlace
  v = Some (place_at due arming)

  abbrev least : ℕ
  least = min (slice_index earliest (due % 256)) due

  written : slice_index earliest' (due % 256) ≡ least
  written = ap (λ (z : List ℕ). slice_index z (due % 256)) is
      ∙ get_or-set_same earliest (due % 256) least 0 (let e = mod-lt due {m = 256} (omega arith) in let f = a.slots in omega arith)

  noted : slice_index earliest' (due % 256) ≤ due
  noted = let e = written in omega arith

  lower : (j : ℕ) → slice_index earliest' j ≤ slice_index earliest j
  lower j = at_or (λ z. slice_index earliest' z ≤ slice_index earliest z) (due % 256) j
      (let e = written in omega arith)
      (λ other. let e : slice_index earliest' j ≡ slice_index earliest j =
      ap (λ (z : List ℕ). slice_index z j) is ∙ get_or-set_other earliest (due % 256) j least 0 other in omega arith)

  pub earliest_put : AreEarliest earliest' (λ j. later_than tick (place_in (set places k v) j))
  earliest_put = record {
    slots = ap (length {A = ℕ}) is ∙ (length-set earliest (due % 256) least ∙ a.slots);
    early = λ j p waits. at_or (λ z. later_than tick (place_in (set places k v) z) ≡ Some p → slice_index earliest' (p.due % 256) ≤ p.due) k j
        (λ here. let same : place_at due arming ≡ p =
        same_Some (place_at due arming) p (sym (get_or-set_same places k v None low) ∙ (later_same tick (place_in (set places k v) k) p here).0) in
        subst (λ (z : DuePlace). slice_index earliest' (z.due % 256) ≤ z.due) same noted)
        (λ other there. let old : later_than tick (place_in places j) ≡ Some p =
        ap (later_than tick) (sym (get_or-set_other places k j v None other)) ∙ there in
        let e = a.early j p old in let f = lower (p.due % 256) in omega arith) waits;
  }

-- an item is taken off
pub earliest_taken : (earliest : List ℕ) (places : List (Option DuePlace)) (tick k : ℕ) → AreEarliest earliest (λ j. later_than tick (place_in places j))
    → k < length places → AreEarliest earliest (λ j. later_than tick (place_in (set places k None) j))
earliest_taken earliest places tick k a low =
    earliest_fewer earliest (λ j. later_than tick (place_in places j)) (λ j. later_than tick (place_in (set places k None) j)) a
    (λ j p is. at_or (λ z. later_than tick (place_in (set places k None) z) ≡ Some p → later_than tick (place_in places z) ≡ Some p) k j
    (λ at. let e : None ≡ Some p = sym (ap (later_than tick) (get_or-set_same places k None None low)) ∙ at in absurd (cc))
    (λ other at. ap (later_than tick) (sym (get_or-set_other places k j None None other)) ∙ at) is)

-- what is due later does not stand in the row
late_waits : (places : List (Option DuePlace)) (row : List Entry) (now k : ℕ) (p : DuePlace) → All (SaysPlace places) row → All (λ e. e.due ≤ now) row
    → place_in places k ≡ Some p → now < p.due → waiting places row k ≡ Some p
late_waits places row now k p valid due is late = by (on_table k row) refl
  where
    by : (b : Bool) → on_table k row ≡ b → cond b None (place_in places k) ≡ Some p
    by true on =
        let e : nat_le p.due now ≡ true = sym (ap (is_due now) is) ∙ row_due places now k row valid due on in
        let early : p.due ≤ now = grind (arith, nat_tests) in absurd (omega arith)
    by false off = is

module _ {places : List (Option DuePlace)} {earliest : List ℕ} {tick : ℕ} {given : List (Option DuePlace)} (value : given ≡ places) where
  -- the table is led on
  pub earliest_start : AreEarliest earliest (λ k. later_than tick (place_in places k)) → (row : List Entry)
      → ((k : ℕ) (p : DuePlace) → waiting given row k ≡ Some p → tick < p.due) → AreEarliest earliest (waiting given row)
  earliest_start a row ahead = earliest_fewer earliest (λ k. later_than tick (place_in places k)) (waiting given row) a
      (λ k p is. ap (λ (z : List (Option DuePlace)). later_than tick (place_in z k)) (sym value)
      ∙ (ap (later_than tick) (waits_there given row k p is).1 ∙ later_some tick p (ahead k p is)))

  pub earliest_led : {next previous : List ℕ} (row : List Entry) → IsGathering given next previous row tick → AreEarliest earliest (waiting given row)
      → AreEarliest earliest (λ k. later_than tick (place_in places k))
  earliest_led row g a = earliest_fewer earliest (waiting given row) (λ k. later_than tick (place_in places k)) a
      (λ k p is. let e = later_same tick (place_in places k) p is in
      late_waits given row tick k p g.valid g.due (ap (λ (z : List (Option DuePlace)). place_in z k) value ∙ e.0) e.1)

-- a new table, on which nothing waits
pub earliest_new : (earliest : List ℕ) (places : List (Option DuePlace)) (tick : ℕ) → length earliest ≡ 256 → ((k : ℕ) → place_in places k ≡ None)
    → AreEarliest earliest (λ k. later_than tick (place_in places k))
earliest_new earliest places tick slots none =
    record { slots = slots; early = λ k p is. let e : None ≡ Some p = sym (ap (later_than tick) (none k)) ∙ is in absurd (cc) }
