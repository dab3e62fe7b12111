-- A word is a number exactly where it is that number's decimal.
use Rattle.wq_text.proofs.Common.{◌≡◌, ℕ, zero, suc, ◌<◌, ◌^◌, Bool, true, false, not, ◌&&◌, ◌||◌, List, length, get_or, Some, None, nat_lt, nat_le, ◌==◌}
use Rattle.wq_text.proofs.Common.{refl, sym, ap, ◌∙◌, arith, lit<, if◌then◌else◌, all_ascii_digits, digits_value, and_parts, lt-ltb, ltb-true, leb-true}
use Rattle.wq_text.proofs.Common.{eq-eqb, ne_eqb, spelled_number, is_numeral}
use Rattle.std.specs.Fmt.{decimal}
use Rattle.std.proofs.lemmas.Fmt.{decimal-digits_value, digits_value-decimal, digits_decimal, decimal_nonempty, first_decimal, decimal_digit}
use Rattle.wq_text.specs.Decimal.{ReadsDecimals}
use Rattle.wq_text.proofs.Words.{own}
use mathlib.Core.Bool.{or-true}
use Rattle.std.proofs.lemmas.Bool.{false≢true}

-- where a test decides a number, a number says that the test passed
passed : (b : Bool) (m n : ℕ) → (if b then Some m else None) ≡ Some n → (b ≡ true) × (m ≡ n)
passed true m n e = (refl, cc)
passed false m n e = cc

no_zero_in_front : (w : List ℕ) → (nat_le (length w) 1 || not (get_or w 0 0 == 48)) ≡ true → 0 < length w → get_or w 0 0 ≡ 48 → length w ≡ 1
no_zero_in_front w e some zero_first = by_length (nat_le (length w) 1) refl (rw (eq-eqb _ _ zero_first) at e)
  where
    by_length : (b : Bool) → nat_le (length w) 1 ≡ b → (nat_le (length w) 1 || not true) ≡ true → length w ≡ 1
    by_length true short h = let le = leb-true _ _ short in omega (arith, le)
    by_length false long h = absurd (false≢true (sym (ap (λ b. b || not true) long) ∙ h))

to_decimal : (w : List ℕ) (n : ℕ) → spelled_number w ≡ Some n → (w ≡ decimal n) × (n < 2 ^ 64)
unfolding spelled_number
to_decimal w n e =
    let t = passed (is_numeral w && nat_lt (digits_value 10 w) (2 ^ 64)) (digits_value 10 w) n e in
    let p = and_parts (is_numeral w) (nat_lt (digits_value 10 w) (2 ^ 64)) t.0 in
    let q = and_parts (nat_lt 0 (length w)) (all_ascii_digits w && (nat_le (length w) 1 || not (get_or w 0 0 == 48))) p.0 in
    let r = and_parts (all_ascii_digits w) (nat_le (length w) 1 || not (get_or w 0 0 == 48)) q.1 in
    let some : 0 < length w = ltb-true _ _ q.0 in
    let small : digits_value 10 w < 2 ^ 64 = ltb-true _ _ p.1 in
    let written : decimal (digits_value 10 w) ≡ w = decimal-digits_value own w r.0 some (no_zero_in_front w r.1 some) small in
    (sym written ∙ ap decimal t.1, omega (arith, small, t.1))

no_front : (n : ℕ) → n < 2 ^ 64 → (nat_le (length (decimal n)) 1 || not (get_or (decimal n) 0 0 == 48)) ≡ true
no_front zero small = rw (decimal_digit 0 (lit< tt)) refl
no_front (suc n) small =
    rw (ne_eqb _ _ above) (or-true (nat_le (length (decimal (suc n))) 1))
  where
    above : get_or (decimal (suc n)) 0 0 ≡ 48 → ⊥
    above e = omega (arith, first_decimal (suc n) (omega arith) small, e)

from_decimal : (n : ℕ) → n < 2 ^ 64 → spelled_number (decimal n) ≡ Some n
unfolding spelled_number
from_decimal n small =
    let value : digits_value 10 (decimal n) ≡ n = digits_value-decimal own n small in
    let some : nat_lt 0 (length (decimal n)) ≡ true = lt-ltb _ _ (decimal_nonempty n small) in
    let digits : all_ascii_digits (decimal n) ≡ true = digits_decimal own n small in
    let bound : nat_lt n (2 ^ 64) ≡ true = lt-ltb _ _ small in
    rw (value, some, digits, no_front n small, bound) refl

pub reads_decimals : ReadsDecimals
reads_decimals w n = (to_decimal w n, λ h. ap spelled_number h.0 ∙ from_decimal n h.1)
