-- What tests tell: a test tells a fact if it answers true just where the fact holds.
use Rattle.std.proofs.Common.{◌≡◌, ◌↔◌, IsTrue, Bool, true, false, not, refl, sym, ◌∙◌}

pub not_tells : {P : Type 0} (b : Bool) → (IsTrue b ↔ P) → IsTrue (not b) ↔ (¬ P)
not_tells true is = (λ e. absurd (cc e), λ none. absurd (none (is.0 refl)))
not_tells false is = (λ _ p. absurd (cc (is.1 p)), λ _. refl)

-- of two facts the first test tells both where it answers false, and the second one where the first answered true
pub first_tells : {P Q : Type 0} {a : Bool} → a ≡ false → (IsTrue a ↔ P) → IsTrue a ↔ (P × Q)
first_tells is first = (λ e. absurd (cc (sym is ∙ e)), λ both. first.1 both.0)

pub second_tells : {P Q : Type 0} {a b : Bool} → a ≡ true → (IsTrue a ↔ P) → (IsTrue b ↔ Q) → IsTrue b ↔ (P × Q)
second_tells is first second = (λ e. (first.0 is, second.0 e), λ both. second.1 both.1)

pub grouped : {P Q R : Type 0} {b : Bool} → (IsTrue b ↔ ((P × Q) × R)) → IsTrue b ↔ (P × Q × R)
grouped is = (λ e. let all = is.0 e in (all.0.0, all.0.1, all.1), λ all. is.1 ((all.0, all.1), all.2))
