-- A wheel after an item was put behind the last of a slot, and after one was taken out.
use Rattle.wq_delay.proofs.Common.{◌≡◌, ℕ, ◌+◌, ◌%◌, ◌<◌, ◌≤◌, ◌≢◌, List, length, get_or, set, slice_index, Some, None, Option, sym, refl, ap, ◌∙◌, mod-lt, nat_tests}
use Rattle.wq_delay.proofs.Common.{arith, get_or-set_other, get_or-set_same, length-set, DuePlace, head_by, number_by, IsWheel, place_at, Bool, true, false, nat_lt}
use Rattle.wq_delay.proofs.Rounds.{last_other, next_other, previous_other, rings_behind, rings_without}

-- two writes into a row
first_write : (xs : List ℕ) (i j x y : ℕ) → i < length xs → i ≢ j → get_or (set (set xs i x) j y) i 0 ≡ x
first_write xs i j x y low other = get_or-set_other (set xs i x) j i y 0 other ∙ get_or-set_same xs i x 0 low

second_write : (xs : List ℕ) (i j x y : ℕ) → j < length xs → get_or (set (set xs i x) j y) j 0 ≡ y
second_write xs i j x y low = get_or-set_same (set xs i x) j y 0 (let e = length-set xs i x in omega arith)

no_write : (xs : List ℕ) (i j x y k : ℕ) → k ≢ i → k ≢ j → get_or (set (set xs i x) j y) k 0 ≡ get_or xs k 0
no_write xs i j x y k ni nj = get_or-set_other (set xs i x) j k y 0 nj ∙ get_or-set_other xs i k x 0 ni

two_writes : (xs : List ℕ) (i j x y : ℕ) → length (set (set xs i x) j y) ≡ length xs
two_writes xs i j x y = length-set (set xs i x) j y ∙ length-set xs i x

pub slot_low : (size due : ℕ) → (size ≤ size + due % 256) × (size + due % 256 < size + 256)
slot_low size due = let e = mod-lt due {m = 256} (omega arith) in (omega arith, omega arith)

-- what waits is an item, and no slot
pub item_low : {size : ℕ} {next previous : List ℕ} {w : ℕ → Option DuePlace} → IsWheel size next previous w → (k : ℕ) (p : DuePlace) → w k ≡ Some p → k < size
item_low {size} wheel k p is = by (nat_lt k size) refl
  where
    by : (b : Bool) → nat_lt k size ≡ b → k < size
    by true lt = grind (arith, nat_tests)
    by false ge = let none = wheel.heads k (grind (arith, nat_tests)) in absurd (cc)

-- an item's ring is that of its slot, or it is alone
head_item : (size x k : ℕ) (o : Option DuePlace) → k < size → head_by size x o ≡ k → x ≡ k
head_item size x k None low is = is
head_item size x k (Some p) low is = let e = slot_low size p.due in absurd (omega arith)

slot_not : (size k : ℕ) (p : DuePlace) → k < size → size + p.due % 256 ≢ k
slot_not size k p low is = let e = slot_low size p.due in omega arith

number_low : (n : ℕ) (o : Option DuePlace) → ((p : DuePlace) → o ≡ Some p → p.arming < n) → number_by o < n + 1
number_low n None below = omega arith
number_low n (Some p) below = let e = below p refl in omega arith

pub wheel_behind : (size : ℕ) (next previous next' previous' : List ℕ) (w w' : ℕ → Option DuePlace) (k due arming : ℕ)
    → IsWheel size next previous w → k < size → w k ≡ None → ((j : ℕ) (p : DuePlace) → w j ≡ Some p → p.arming < arming)
    → w' k ≡ Some (place_at due arming) → ((j : ℕ) → j ≢ k → w' j ≡ w j)
    → next' ≡ set (set next (slice_index previous (size + due % 256)) k) k (size + due % 256)
    → previous' ≡ set (set previous (size + due % 256) k) k (slice_index previous (size + due % 256))
    → IsWheel size next' previous' w'
wheel_behind size next previous next' previous' w w' k due arming wheel low none armed at other next_is previous_is =
    let t : ℕ = size + due % 256 in let l : ℕ = slice_index previous t in
    let n : ℕ → ℕ = λ x. slice_index next x in let p : ℕ → ℕ = λ x. slice_index previous x in
    let h : ℕ → ℕ = λ x. head_by size x (w x) in let a : ℕ → ℕ = λ x. number_by (w x) in
    let r = wheel.rings in let slot = slot_low size due in
    let ne : k ≢ t = omega (arith, slot) in
    let t_head : h t ≡ t = ap (head_by size t) (wheel.heads t slot.0) in
    let k_head : h k ≡ k = ap (head_by size k) none in
    let l_ne : l ≢ k = last_other n p h a (size + 256) k t r slot.1 t_head k_head ne in
    let l_low : l < size + 256 = r.previous_low t slot.1 in
    record {
      next_length = ap (length {A = ℕ}) next_is ∙ (two_writes next l k k t ∙ wheel.next_length);
      previous_length = ap (length {A = ℕ}) previous_is ∙ (two_writes previous t k k l ∙ wheel.previous_length);
      heads = λ j high. other j (omega arith) ∙ wheel.heads j high;
      rings = rings_behind n p h a (size + 256) k t l r (omega arith) slot.1 ne refl t_head (λ x x_low is. head_item size x k (w x) low is) k_head
          (λ x. slice_index next' x) (λ x. slice_index previous' x) (λ x. head_by size x (w' x)) (λ x. number_by (w' x))
          (ap (λ (z : List ℕ). get_or z k 0) next_is ∙ second_write next l k k t (let e = wheel.next_length in omega arith))
          (ap (λ (z : List ℕ). get_or z l 0) next_is ∙ first_write next l k k t (let e = wheel.next_length in omega arith) l_ne)
          (λ x nk nl. ap (λ (z : List ℕ). get_or z x 0) next_is ∙ no_write next l k k t x nl nk)
          (ap (λ (z : List ℕ). get_or z k 0) previous_is ∙ second_write previous t k k l (let e = wheel.previous_length in omega arith))
          (ap (λ (z : List ℕ). get_or z t 0) previous_is ∙ first_write previous t k k l (let e = wheel.previous_length in let f = slot.1 in omega arith)
          (λ e. ne (sym e)))
          (λ x nk nt. ap (λ (z : List ℕ). get_or z x 0) previous_is ∙ no_write previous t k k l x nt nk)
          (ap (head_by size k) at)
          (λ x nk. ap (head_by size x) (other x nk))
          (λ x nk. ap number_by (other x nk))
          (λ x x_low is. let e = ap number_by at in let f = number_low arming (w x) (armed x) in omega arith);
    }

pub wheel_without : (size : ℕ) (next previous next' previous' : List ℕ) (w w' : ℕ → Option DuePlace) (k : ℕ) (q : DuePlace)
    → IsWheel size next previous w → k < size → w k ≡ Some q
    → w' k ≡ None → ((j : ℕ) → j ≢ k → w' j ≡ w j)
    → next' ≡ set (set next (slice_index previous k) (slice_index next k)) k k
    → previous' ≡ set (set previous (slice_index next k) (slice_index previous k)) k k
    → IsWheel size next' previous' w'
wheel_without size next previous next' previous' w w' k q wheel low some at other next_is previous_is =
    let u : ℕ = slice_index previous k in let v : ℕ = slice_index next k in
    let n : ℕ → ℕ = λ x. slice_index next x in let p : ℕ → ℕ = λ x. slice_index previous x in
    let h : ℕ → ℕ = λ x. head_by size x (w x) in let a : ℕ → ℕ = λ x. number_by (w x) in
    let r = wheel.rings in
    let k_low : k < size + 256 = omega arith in
    let away : h k ≢ k = λ is. slot_not size k q low (sym (ap (head_by size k) some) ∙ is) in
    let u_ne : u ≢ k = previous_other n p h a (size + 256) k r k_low away in
    let v_ne : v ≢ k = next_other n p h a (size + 256) k r k_low away in
    let u_low : u < size + 256 = r.previous_low k k_low in let v_low : v < size + 256 = r.next_low k k_low in
    record {
      next_length = ap (length {A = ℕ}) next_is ∙ (two_writes next u k v k ∙ wheel.next_length);
      previous_length = ap (length {A = ℕ}) previous_is ∙ (two_writes previous v k u k ∙ wheel.previous_length);
      heads = λ j high. other j (omega arith) ∙ wheel.heads j high;
      rings = rings_without n p h a (size + 256) k u v r k_low away refl refl
          (λ x. slice_index next' x) (λ x. slice_index previous' x) (λ x. head_by size x (w' x)) (λ x. number_by (w' x))
          (ap (λ (z : List ℕ). get_or z k 0) next_is ∙ second_write next u k v k (let e = wheel.next_length in omega arith))
          (ap (λ (z : List ℕ). get_or z u 0) next_is ∙ first_write next u k v k (let e = wheel.next_length in omega arith) u_ne)
          (λ x nk nu. ap (λ (z : List ℕ). get_or z x 0) next_is ∙ no_write next u k v k x nu nk)
          (ap (λ (z : List ℕ). get_or z k 0) previous_is ∙ second_write previous v k u k (let e = wheel.previous_length in omega arith))
          (ap (λ (z : List ℕ). get_or z v 0) previous_is ∙ first_write previous v k u k (let e = wheel.previous_length in omega arith) v_ne)
          (λ x nk nv. ap (λ (z : List ℕ). get_or z x 0) previous_is ∙ no_write previous v k u k x nv nk)
          (ap (head_by size k) at)
          (λ x nk. ap (head_by size x) (other x nk))
          (λ x nk. ap number_by (other x nk));
    }
