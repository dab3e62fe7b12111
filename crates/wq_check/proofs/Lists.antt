-- What is left of a list behind some of its elements, and the largest of some numbers.
use Rattle.std.proofs.Common.{◌≡◌, ℕ, zero, suc, ◌-◌, ◌≤◌, max, List, [], ◌∷◌, ◌++◌, length, take, drop, Some, None, slice_get, refl, ap, ◌∙◌}
use Rattle.std.proofs.Common.{arith, length-append}
use Rattle.std.proofs.lemmas.List.{take_all, take-append-le}
use Rattle.std.specs.List.{Contains}
use Rattle.wq_check.specs.Left.{largest_up_to}

-- a list that contains something has a first
pub never_empty : (xs : List ℕ) (k : ℕ) → Contains xs k → slice_get xs 0 ≡ None → ⊥
never_empty [] k at none = absurd (omega (arith, at.1))
never_empty (x ∷ xs) k at none = cc

pub drop_some : {X : Type 0} (xs : List X) (n : ℕ) (x : X) → slice_get xs n ≡ Some x → drop n xs ≡ x ∷ drop (suc n) xs
drop_some [] n x at = absurd cc
drop_some (y ∷ xs) zero x at = let same : y ≡ x = cc in ap (λ z. z ∷ xs) same
drop_some (y ∷ xs) (suc n) x at = drop_some xs n x at

largest_up_to-same : (f g : ℕ → ℕ) (n : ℕ) → ((i : ℕ) → i ≤ n → f i ≡ g i) → largest_up_to f n ≡ largest_up_to g n
largest_up_to-same f g zero same = same 0 (omega arith)
largest_up_to-same f g (suc n) same =
    ap (λ m. max m (f (suc n))) (largest_up_to-same f g n (λ i le. same i (omega (arith, le)))) ∙ ap (max (largest_up_to g n)) (same (suc n) (omega arith))

-- over the beginnings of a list with one element more
pub largest_up_to-push : {X : Type 0} (f : List X → ℕ) (xs : List X) (x : X)
    → largest_up_to (λ i. f (take i (xs ++ x ∷ []))) (length (xs ++ x ∷ [])) ≡ max (largest_up_to (λ i. f (take i xs)) (length xs)) (f (xs ++ x ∷ []))
largest_up_to-push f xs x =
    let grown : length (xs ++ x ∷ []) ≡ suc (length xs) = omega (arith, length-append xs (x ∷ [])) in
    let all : take (suc (length xs)) (xs ++ x ∷ []) ≡ xs ++ x ∷ [] = take_all (suc (length xs)) (xs ++ x ∷ []) (omega (arith, grown)) in
    ap (largest_up_to (λ i. f (take i (xs ++ x ∷ [])))) grown
    ∙ (ap (λ m. max m (f (take (suc (length xs)) (xs ++ x ∷ []))))
    (largest_up_to-same (λ i. f (take i (xs ++ x ∷ []))) (λ i. f (take i xs)) (length xs) (λ i le. ap f (take-append-le i xs (x ∷ []) le)))
    ∙ ap (λ ys. max (largest_up_to (λ i. f (take i xs)) (length xs)) (f ys)) all)

pub behind_first : {X : Type 0} (x : X) (xs : List X) (place : ℕ) → (place ≡ 0 → ⊥) → slice_get xs (place - 1) ≡ slice_get (x ∷ xs) place
behind_first x xs zero some = absurd (some refl)
behind_first x xs (suc place) some = ap (slice_get xs) (omega arith)
