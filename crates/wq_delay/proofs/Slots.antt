-- Slot after slot is looked at.
use Rattle.wq_delay.proofs.Common.{◌≡◌, ℕ, ◌+◌, ◌-◌, ◌*◌, ◌/◌, ◌%◌, ◌<◌, ◌≤◌, min, Bool, true, false, List, length, nat_le, Some, Option, refl, ap, ◌∙◌, mod-lt}
use Rattle.wq_delay.proofs.Common.{arith, mod-add-div', add-mul-mod_self_right, mod-le, nat_tests, Entry, DuePlace, waiting, IsGathering, StillWaits, IsClean}
use Rattle.wq_delay.proofs.Rounds.{at_or}

-- the slots of the ticks after tick were looked at, up to so many
pub record LookingOn (places : List (Option DuePlace)) (next previous : List ℕ) (start row : List Entry) (tick now n : ℕ) : Type 0 where
  pub gathering : IsGathering places next previous row now
  pub fewer : StillWaits places start row
  pub done : (j : ℕ) → j < n → (k : ℕ) (p : DuePlace) → waiting places row k ≡ Some p → p.due % 256 ≡ (tick + 1 + j) % 256 → now < p.due

pub looking_on_init : (places : List (Option DuePlace)) (next previous : List ℕ) (row : List Entry) (tick now : ℕ)
    → IsGathering places next previous row now → LookingOn places next previous row row tick now 0
looking_on_init places next previous row tick now g = record {
  gathering = g;
  fewer = λ k p is. is;
  done = λ j low k p is at. absurd (omega arith);
}

pub looking_on_more : (places : List (Option DuePlace)) (next previous next' previous' : List ℕ) (start row row' : List Entry) (tick now n head : ℕ)
    → LookingOn places next previous start row tick now n → head ≡ length places + (tick + 1 + n) % 256
    → IsGathering places next' previous' row' now → StillWaits places row row' → IsClean places row' head now
    → LookingOn places next' previous' start row' tick now (n + 1)
looking_on_more places next previous next' previous' start row row' tick now n head l head_is g fewer clean = record {
  gathering = g;
  fewer = λ k p is. l.fewer k p (fewer k p is);
  done = λ j low k p is at. at_or (λ z. z < n + 1 → p.due % 256 ≡ (tick + 1 + z) % 256 → now < p.due) n j
      (λ _ same. clean k p is (omega arith))
      (λ other less same. l.done j (omega arith) k p (fewer k p is) same) low at;
}

-- the slot of a tick is among those looked at
slot_of : (tick due now n : ℕ) → tick < due → due ≤ now → n ≡ min (now - tick) 256
    → (j : ℕ) × (j < n) × (due % 256 ≡ (tick + 1 + j) % 256)
slot_of tick due now n late early n_is =
    let m : ℕ = due - (tick + 1) in let j : ℕ = m % 256 in
    let whole = mod-add-div' m 256 in let less = mod-le m 256 in let small = mod-lt m {m = 256} (omega arith) in
    let due_is : due ≡ tick + 1 + j + (m / 256) * 256 = omega arith in
    (j, (omega arith), ap (λ (z : ℕ). z % 256) due_is ∙ add-mul-mod_self_right (tick + 1 + j) (m / 256) 256)

pub looking_on_end : (places : List (Option DuePlace)) (next previous : List ℕ) (start row : List Entry) (tick now n : ℕ)
    → LookingOn places next previous start row tick now n → n ≡ min (now - tick) 256
    → ((k : ℕ) (p : DuePlace) → waiting places start k ≡ Some p → tick < p.due)
    → (k : ℕ) (p : DuePlace) → waiting places row k ≡ Some p → now < p.due
looking_on_end places next previous start row tick now n l n_is ahead k p is = by (nat_le p.due now) refl
  where
    by : (b : Bool) → nat_le p.due now ≡ b → now < p.due
    by false late = grind (arith, nat_tests)
    by true early =
        let s = slot_of tick p.due now n (ahead k p (l.fewer k p is)) (grind (arith, nat_tests)) n_is in
        l.done s.0 s.1 k p is s.2
