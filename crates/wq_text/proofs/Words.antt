-- When a word is a number.
use Rattle.wq_text.proofs.Common.{◌≡◌, ℕ, ◌<◌, ◌≤◌, ◌^◌, Bool, true, false, not, ◌&&◌, ◌||◌, List, [], ◌∷◌, length, get_or, Some, None, Result, Ok, Err}
use Rattle.wq_text.proofs.Common.{nat_lt, nat_le, ◌==◌, refl, sym, ◌∙◌, arith, inl, inr, subst, if◌then◌else◌, ◌⊎◌, all_ascii_digits, ParsesUnsigned}
use Rattle.wq_text.proofs.Common.{digits_value, result_ok, OkIff, lt-ltb, le-ltb, le-leb, lt-leb, eq-eqb, ne_eqb, eqb-false, spelled_number}
use Rattle.wq_text.proofs.Common.{map, ap, Option}
use Rattle.std.specs.Prelude.{IfOk, IfSome}
use Rattle.std.specs.Iterator.{DrainsIf}
use Rattle.std.proofs.lemmas.Iterator.{YieldsList, items_from_drains}
use Rattle.arrayvec.specs.ArrayVec.{ArrayVec}
use Rattle.std.proofs.lemmas.Str.Parse.{IsNumeralModel, numerals_by_value, tells_all_ascii_digits, parse_plain}
use mathlib.Core.Bool.{or-true}
use Rattle.std.proofs.lemmas.Bool.{false≢true}

pub own : IsNumeralModel (λ ds. all_ascii_digits ds ≡ true) (digits_value 10)
own = numerals_by_value _ tells_all_ascii_digits

pub nonempty : (w : List ℕ) → (length w == 0) ≡ false → 0 < length w
nonempty w e = let differs = eqb-false _ _ e in omega (arith, differs)

pub no_empty : (w : List ℕ) → length w ≡ 0 → None ≡ spelled_number w
unfolding spelled_number
no_empty [] e = refl
no_empty (b ∷ bs) e = absurd (omega (arith, e))

all_and : (b : Bool) → (b && false) ≡ false
all_and true = refl
all_and false = refl

plus_first : (b : ℕ) (bs : List ℕ) → b ≡ 43 → None ≡ spelled_number (b ∷ bs)
unfolding spelled_number
plus_first b bs e = let P : ℕ → Type 0 = λ n. None ≡ spelled_number (n ∷ bs) in subst P (sym e) (simp all_and)

pub no_plus : (w : List ℕ) → 0 < length w → get_or w 0 0 ≡ 43 → None ≡ spelled_number w
unfolding spelled_number
no_plus [] lt e = absurd (omega (arith, lt))
no_plus (b ∷ bs) lt e = plus_first b bs e

pub no_zero : (w : List ℕ) → 1 < length w → get_or w 0 0 ≡ 48 → None ≡ spelled_number w
unfolding spelled_number
no_zero w lt e =
    let long : nat_le (length w) 1 ≡ false = lt-leb _ _ lt in
    let first : (get_or w 0 0 == 48) ≡ true = eq-eqb _ _ e in
    simp (long, first, all_and)

no_zeros : (w : List ℕ) → (length w ≤ 1) ⊎ (get_or w 0 0 ≡ 48 → ⊥) → (nat_le (length w) 1 || not (get_or w 0 0 == 48)) ≡ true
no_zeros w (inl le) = rw (le-leb _ _ le) refl
no_zeros w (inr differs) = rw (ne_eqb _ _ differs) (or-true (nat_le (length w) 1))

by_digits : {E : Type 0} (b : Bool) (w : List ℕ) (r : Result ℕ E) → all_ascii_digits w ≡ b → 0 < length w
    → OkIff r ((all_ascii_digits w ≡ true) × (0 < length w) × (digits_value 10 w < 2 ^ 64)) (digits_value 10 w)
    → result_ok r ≡ (if (b && true) && nat_lt (digits_value 10 w) (2 ^ 64) then Some (digits_value 10 w) else None)
by_digits {E} true w (Ok x) e lt h = rw (lt-ltb _ _ h.0.2, h.1) refl
by_digits {E} true w (Err x) e lt h = rw (le-ltb (digits_value 10 w) (2 ^ 64) (not_below (λ small. h (e, lt, small)))) refl
  where
    not_below : {m n : ℕ} → (m < n → ⊥) → n ≤ m
    not_below h = omega (arith, h)
by_digits {E} false w (Ok x) e lt h = absurd (false≢true (sym e ∙ h.0.0))
by_digits {E} false w (Err x) e lt h = refl

pub parsed : {E : Type 0} (w : List ℕ) (r : Result ℕ E) → ParsesUnsigned 64 10 w r → 0 < length w → (get_or w 0 0 ≡ 43 → ⊥)
    → (length w ≤ 1) ⊎ (get_or w 0 0 ≡ 48 → ⊥) → result_ok r ≡ spelled_number w
unfolding spelled_number
parsed {E} w r h lt plus zeros =
    let positive : nat_lt 0 (length w) ≡ true = lt-ltb _ _ lt in
    let third : (nat_le (length w) 1 || not (get_or w 0 0 == 48)) ≡ true = no_zeros w zeros in
    rw (positive, third) (by_digits (all_ascii_digits w) w r refl lt (parse_plain own 64 w r h plus))

-- words that found room, where v reads each
pub found_room : {S A B E : Type 0} {steps : S → Option A → S → Type 0} (v : A → B) (s : S) (all : List B) (r : Result (ArrayVec A) E)
    → IfOk r (λ w. (it : S) × (xs : List A) × (it ≡ s) × DrainsIf steps (Unit {0}) it xs × (w.items ≡ xs)) → YieldsList steps v s all
    → IfSome (result_ok r) (λ w. map v w.items ≡ all)
found_room {S} {A} {B} {E} {steps} v s all (Ok w) ran road =
    ap (map v) ran.4 ∙ items_from_drains ran.1 (subst (λ (it : S). DrainsIf steps (Unit {0}) it ran.1) ran.2 ran.3) road
found_room v s all (Err e) ran road = tt
