-- A slot is gone through place by place, and what is due is found, while all stays where it is.
use Rattle.wq_delay.proofs.Common.{◌≡◌, ℕ, ◌+◌, ◌-◌, ◌*◌, ◌/◌, ◌%◌, ◌<◌, ◌≤◌, Bool, true, false, ◌&&◌, ◌||◌, ◌≢◌, List, [], ◌∷◌, ◌++◌, length, get_or}
use Rattle.wq_delay.proofs.Common.{nat_lt, nat_le, ◌==◌, slice_index, Some, None, Option, sym, refl, ap, ◌∙◌, subst, mod-lt, arith, mod-add-div'}
use Rattle.wq_delay.proofs.Common.{add-mul-mod_self_right, nat_tests, get_or_read, Entry, on_table, DuePlace, place_in, head_by, number_by, later_than, turn_of}
use Rattle.wq_delay.proofs.Common.{IsWheel, AreOnTable, AreFound, entry_at, AreRings, same_Some}
use Rattle.wq_delay.proofs.Rounds.{at_or}
use Rattle.wq_delay.proofs.Standing.{later_same, later_some}
use Rattle.wq_delay.proofs.Looking.{on_push, more_on_table, steps_left, steps_fewer, less_number}
use Rattle.wq_delay.proofs.Fitting.{place_low}
use mathlib.Core.Bool.{and-false, or-false}

-- the slot of a later tick is the n-th after that of the tick t where its turn is n
pub turn_slot : (t n due : ℕ) → t < due → turn_of t due ≡ n → due % 256 ≡ (t + 1 + n) % 256
turn_slot t n due late is =
    let m : ℕ = due - (t + 1) in let whole = mod-add-div' m 256 in
    let due_is : due ≡ t + 1 + n + (m / 256) * 256 = omega arith in
    ap (λ (z : ℕ). z % 256) due_is ∙ add-mul-mod_self_right (t + 1 + n) (m / 256) 256

slot_turn : (t n due : ℕ) → t < due → n < 256 → due % 256 ≡ (t + 1 + n) % 256 → turn_of t due ≡ n
slot_turn t n due late low is =
    let m : ℕ = due - (t + 1) in let j : ℕ = m % 256 in let small = mod-lt m {m = 256} (omega arith) in
    let same : (t + 1 + j) % 256 ≡ (t + 1 + n) % 256 = sym (turn_slot t j due late refl) ∙ is in
    let a = mod-add-div' (t + 1 + j) 256 in let b = mod-add-div' (t + 1 + n) 256 in omega arith

-- an item that waits before the place x of the slot, or any where x is its head
abbrev pub is_behind : ℕ → ℕ → DuePlace → ℕ → Bool
is_behind head x p number = (x == head) || nat_lt (p.arming + 1) number

-- due at the tick t, or in one of the first n slots after that, or in the next where so far it was met
abbrev pub is_passed : ℕ → ℕ → Bool → DuePlace → Bool
is_passed t n met p = nat_le p.due t || (nat_lt (turn_of t p.due) n || ((turn_of t p.due == n) && met))

-- at the place x of the n-th slot after the tick t, what is due and waits before it was found
pub record Finding (places : List (Option DuePlace)) (t now n head : ℕ) (es : List Entry) (x : ℕ) : Type 0 where
  pub on : AreOnTable places es
  pub low : x < length places + 256
  pub here : head_by (length places) x (later_than t (place_in places x)) ≡ head
  pub which : (k : ℕ) (p : DuePlace) → place_in places k ≡ Some p
      → on_table k es ≡ (nat_le p.due now && is_passed t n (is_behind head x p (number_by (later_than t (place_in places x)))) p)

-- tests of what is passed, which are the same where they are so of what is later and of this turn
passed_alike : (a b c d e f : Bool) → (b ≡ false → d ≡ true → e ≡ f) → (a && (b || (c || (d && e)))) ≡ (a && (b || (c || (d && f))))
passed_alike false b c d e f same = refl
passed_alike true true c d e f same = refl
passed_alike true false true d e f same = refl
passed_alike true false false true e f same = same refl refl
passed_alike true false false false e f same = refl

module _ (places : List (Option DuePlace)) (next previous : List ℕ) (t now n head : ℕ) (small : n < 256)
    (head_is : head ≡ length places + (t + 1 + n) % 256)
    (wheel : IsWheel (length places) next previous (λ k. later_than t (place_in places k))) where
  abbrev size : ℕ
  size = length places

  abbrev w : ℕ → Option DuePlace
  w k = later_than t (place_in places k)

  abbrev number : ℕ → ℕ
  number k = number_by (w k)

  r : AreRings (slice_index next) (slice_index previous) (λ k. head_by size k (w k)) number (size + 256)
  r = wheel.rings

  pub head_low : (size ≤ head) × (head < size + 256)
  head_low = let e = mod-lt (t + 1 + n) {m = 256} (omega arith) in (omega arith, omega arith)

  waits : (k : ℕ) (p : DuePlace) → place_in places k ≡ Some p → t < p.due → w k ≡ Some p
  waits k p is late = ap (later_than t) is ∙ later_some t p late

  -- an item of this turn stands in the ring of the head
  in_slot : (k : ℕ) (p : DuePlace) → place_in places k ≡ Some p → t < p.due → turn_of t p.due ≡ n → head_by size k (w k) ≡ head
  in_slot k p is late turn = ap (head_by size k) (waits k p is late) ∙ (let e = turn_slot t n p.due late turn in omega arith)

  number_item : (k : ℕ) (p : DuePlace) → place_in places k ≡ Some p → t < p.due → number k ≡ p.arming + 1
  number_item k p is late = ap number_by (waits k p is late)

  head_own : head_by size head (w head) ≡ head
  head_own = ap (head_by size head) (wheel.heads head head_low.0)

  late_by : (due : ℕ) → nat_le due t ≡ false → t < due
  late_by due later = grind (arith, nat_tests)

  turn_by : (due : ℕ) → (turn_of t due == n) ≡ true → turn_of t due ≡ n
  turn_by due is = grind (arith, nat_tests)

  pub finding_init : (es : List Entry) → AreFound places t now n es → Finding places t now n head es (slice_index next head)
  finding_init es f = record {
    on = f.on;
    low = r.next_low head head_low.1;
    here = r.stays head head_low.1 ∙ head_own;
    which = λ k p is. f.which k p is ∙ (none (nat_le p.due now) (nat_le p.due t) (nat_lt (turn_of t p.due) n) (turn_of t p.due == n)
        ∙ passed_alike (nat_le p.due now) (nat_le p.due t) (nat_lt (turn_of t p.due) n) (turn_of t p.due == n) false
        (is_behind head (slice_index next head) p (number (slice_index next head)))
        (λ later turn. sym (first k p is (late_by p.due later) (turn_by p.due turn))));
  }
    where
      none : (a b c d : Bool) → (a && (b || c)) ≡ (a && (b || (c || (d && false))))
      none false b c d = refl
      none true true c d = refl
      none true false true d = refl
      none true false false true = refl
      none true false false false = refl

      first : (k : ℕ) (p : DuePlace) → place_in places k ≡ Some p → t < p.due → turn_of t p.due ≡ n
          → is_behind head (slice_index next head) p (number (slice_index next head)) ≡ false
      first k p is late turn =
          let low = place_low places k p is in let e = number_item k p is late in
          let zero_is : number head ≡ 0 = ap number_by (wheel.heads head head_low.0) in
          let near = r.nearest head k head_low.1 (omega arith) (head_own ∙ sym (in_slot k p is late turn)) (omega arith) in
          let ne : slice_index next head ≢ head = λ s. near.0 (s ∙ sym head_own) in
          let far : (slice_index next head == head) ≡ false = grind (arith, nat_tests) in
          let above : nat_lt (p.arming + 1) (number (slice_index next head)) ≡ false = let o = near.1 in grind (arith, nat_tests) in
          rw (far, above) refl

  -- behind the last place
  pub finding_end : (x : ℕ) (es : List Entry) → Finding places t now n head es x → x ≡ head → AreFound places t now (n + 1) es
  finding_end x es l is = record {
    on = l.on;
    which = λ k p at. l.which k p at ∙ (let e : (x == head) ≡ true = grind (arith, nat_tests) in
        ap (λ (z : Bool). nat_le p.due now && is_passed t n (z || nat_lt (p.arming + 1) (number x)) p) e
        ∙ one (nat_le p.due now) (nat_le p.due t) (turn_of t p.due));
  }
    where
      one : (a b : Bool) (m : ℕ) → (a && (b || (nat_lt m n || ((m == n) && true)))) ≡ (a && (b || nat_lt m (n + 1)))
      one a b m = ap (λ (z : Bool). a && (b || z)) (by (nat_lt m n) (m == n) refl refl)
        where
          by : (c d : Bool) → nat_lt m n ≡ c → (m == n) ≡ d → (c || (d && true)) ≡ nat_lt m (n + 1)
          by true d u v = sym (grind (arith, nat_tests))
          by false true u v = sym (grind (arith, nat_tests))
          by false false u v = sym (grind (arith, nat_tests))

  module _ (es : List Entry) (x : ℕ) (l : Finding places t now n head es x) (ne : x ≢ head) where
    abbrev y : ℕ
    y = slice_index next x

    pub x_item : (q : DuePlace) × (w x ≡ Some q) × (size + q.due % 256 ≡ head)
    x_item = by (w x) refl l.here
      where
        by : (o : Option DuePlace) → w x ≡ o → head_by size x o ≡ head → (q : DuePlace) × (w x ≡ Some q) × (size + q.due % 256 ≡ head)
        by None is at = absurd (ne at)
        by (Some q) is at = (q, is, at)

    abbrev q : DuePlace
    q = x_item.0

    pub item_there : (place_in places x ≡ Some q) × (t < q.due) × (x < size)
    item_there = let e = later_same t (place_in places x) q x_item.1 in (e.0, e.1, place_low places x q e.0)

    q_turn : turn_of t q.due ≡ n
    q_turn = slot_turn t n q.due item_there.1 small (let e = x_item.2 in omega arith)

    y_here : head_by size y (w y) ≡ head
    y_here = r.stays x l.low ∙ l.here

    y_rises : y ≢ head → number x < number y
    y_rises far = r.rises x l.low (λ s. far (s ∙ l.here))

    x_number : number x ≡ q.arming + 1
    x_number = ap number_by x_item.1

    no_head : (x == head) ≡ false
    no_head = grind (arith, nat_tests)

    -- before the next place stands no more than before x, and x
    between : (k : ℕ) (p : DuePlace) → k ≢ x → place_in places k ≡ Some p → t < p.due → turn_of t p.due ≡ n
        → is_behind head y p (number y) ≡ is_behind head x p (number x)
    between k p other is late turn =
        let low = place_low places k p is in
        let same : head_by size k (w k) ≡ head_by size x (w x) = in_slot k p is late turn ∙ sym l.here in
        ap (λ (z : Bool). (y == head) || z) refl ∙ (by (nat_lt (number x) (p.arming + 1)) (nat_lt (p.arming + 1) (number x)) refl refl (omega arith) same
        ∙ sym (ap (λ (z : Bool). z || nat_lt (p.arming + 1) (number x)) no_head))
      where
        by : (b c : Bool) → nat_lt (number x) (p.arming + 1) ≡ b → nat_lt (p.arming + 1) (number x) ≡ c → k < size + 256
            → head_by size k (w k) ≡ head_by size x (w x) → is_behind head y p (number y) ≡ nat_lt (p.arming + 1) (number x)
        by true c up down low same =
            let e = number_item k p is late in
            let near = r.nearest x k l.low low (sym same) (grind (arith, nat_tests)) in
            let far : (y == head) ≡ false = let s : y ≢ head = λ s. near.0 (s ∙ sym l.here) in grind (arith, nat_tests) in
            let above : nat_lt (p.arming + 1) (number y) ≡ false = let o = near.1 in grind (arith, nat_tests) in
            let not_x : nat_lt (p.arming + 1) (number x) ≡ false = grind (arith, nat_tests) in
            rw (far, above) (sym not_x)
        by false true up down low same = before (y == head) refl ∙ sym down
          where
            before : (b : Bool) → (y == head) ≡ b → (b || nat_lt (p.arming + 1) (number y)) ≡ true
            before true at = refl
            before false at = let s : y ≢ head = grind (arith, nat_tests) in let u = y_rises s in
                let less : p.arming + 1 < number x = grind (arith, nat_tests) in grind (arith, nat_tests)
        by false false up down low same =
            let e = number_item k p is late in let equal : number k ≡ number x = grind (arith, nat_tests) in
            absurd (other (r.apart k x low l.low same equal))

    -- x is due at the tick now or not, and is found where it is
    x_before : is_passed t n (is_behind head x q (number x)) q ≡ false
    x_before =
        let a : nat_le q.due t ≡ false = let e = item_there.1 in grind (arith, nat_tests) in
        let b : nat_lt (turn_of t q.due) n ≡ false = let e = q_turn in grind (arith, nat_tests) in
        let c : (turn_of t q.due == n) ≡ true = let e = q_turn in grind (arith, nat_tests) in
        let d : nat_lt (q.arming + 1) (number x) ≡ false = let e = x_number in grind (arith, nat_tests) in
        rw (a, b, c, no_head, d) refl

    x_after : is_passed t n (is_behind head y q (number y)) q ≡ true
    x_after =
        let a : nat_le q.due t ≡ false = let e = item_there.1 in grind (arith, nat_tests) in
        let b : nat_lt (turn_of t q.due) n ≡ false = let e = q_turn in grind (arith, nat_tests) in
        let c : (turn_of t q.due == n) ≡ true = let e = q_turn in grind (arith, nat_tests) in
        rw (a, b, c) (before (y == head) refl)
      where
        before : (b : Bool) → (y == head) ≡ b → (b || nat_lt (q.arming + 1) (number y)) ≡ true
        before true at = refl
        before false at = let s : y ≢ head = grind (arith, nat_tests) in let u = y_rises s in let v = x_number in grind (arith, nat_tests)

    pub not_found : on_table x es ≡ false
    not_found = l.which x q item_there.0 ∙ (ap (λ (z : Bool). nat_le q.due now && z) x_before ∙ and-false (nat_le q.due now))

    other_which : (k : ℕ) (p : DuePlace) → k ≢ x → place_in places k ≡ Some p
        → on_table k es ≡ (nat_le p.due now && is_passed t n (is_behind head y p (number y)) p)
    other_which k p other is =
        l.which k p is ∙ passed_alike (nat_le p.due now) (nat_le p.due t) (nat_lt (turn_of t p.due) n) (turn_of t p.due == n)
        (is_behind head x p (number x)) (is_behind head y p (number y))
        (λ later turn. sym (between k p other is (late_by p.due later) (turn_by p.due turn)))

    -- x is not due by then
    pub finding_pass : (p : DuePlace) → place_in places x ≡ Some p → now < p.due → Finding places t now n head es y
    finding_pass o here late = record {
      on = l.on;
      low = r.next_low x l.low;
      here = y_here;
      which = λ k p is. let passed : Bool = is_passed t n (is_behind head y p (number y)) p in
          at_or (λ z. place_in places z ≡ Some p → on_table z es ≡ (nat_le p.due now && passed)) x k
          (λ at. let e = same_Some o p (sym here ∙ at) in let f = ap (λ (z : DuePlace). z.due) e in
          let later : nat_le p.due now ≡ false = grind (arith, nat_tests) in not_found ∙ sym (ap (λ (z : Bool). z && passed) later))
          (λ other at. other_which k p other at) is;
    }

    pub finding_take : (es' : List Entry) (p : DuePlace) → place_in places x ≡ Some p → p.due ≤ now
        → es' ≡ es ++ entry_at p x ∷ [] → Finding places t now n head es' y
    finding_take es' p at due es_is =
        let e : Entry = entry_at p x in record {
          on = subst (AreOnTable places) (sym es_is) (more_on_table places es x p l.on not_found at);
          low = r.next_low x l.low;
          here = y_here;
          which = λ k o is. ap (on_table k) es_is ∙ (on_push k es e ∙ at_or (λ z. place_in places z ≡ Some o
              → (on_table z es || (z == x)) ≡ (nat_le o.due now && is_passed t n (is_behind head y o (number y)) o)) x k
              (λ here. own o (same_Some q o (sym item_there.0 ∙ here)) (same_Some p o (sym at ∙ here)))
              (λ other there. let apart : (k == x) ≡ false = grind (arith, nat_tests) in
              ap (λ (z : Bool). on_table k es || z) apart ∙ (or-false (on_table k es) ∙ other_which k o other there)) is);
        }
      where
        own : (o : DuePlace) → q ≡ o → p ≡ o
            → (on_table x es || (x == x)) ≡ (nat_le o.due now && is_passed t n (is_behind head y o (number y)) o)
        own o q_is p_is =
            let self : (x == x) ≡ true = grind (arith, nat_tests) in
            let soon : nat_le o.due now ≡ true = let f = ap (λ (z : DuePlace). z.due) p_is in grind (arith, nat_tests) in
            ap (λ (z : Bool). z || (x == x)) not_found
            ∙ (self ∙ sym (ap (λ (z : Bool). z && is_passed t n (is_behind head y o (number y)) o) soon
            ∙ subst (λ (z : DuePlace). is_passed t n (is_behind head y z (number y)) z ≡ true) q_is x_after))

    less_steps : steps_left places head y < steps_left places head x
    less_steps = steps_fewer places head x y ne
        (λ far. let c = x_number in let d = ap number_by item_there.0 in let e = less (place_in places y) in let up = y_rises far in omega arith)
      where
        less : (o : Option DuePlace) → number_by (later_than t o) ≤ number_by o
        less None = omega arith
        less (Some p) = less_number (nat_le p.due t) (Some p)

    -- and so it is where the next was read
    pub less_read : (z : ℕ) → z ≡ get_or next x z → steps_left places head z < steps_left places head x
    less_read z read =
        subst (λ (v : ℕ). steps_left places head v < steps_left places head x)
        (sym (get_or_read next x z (omega (arith, l.low, wheel.next_length)) read 0)) less_steps
