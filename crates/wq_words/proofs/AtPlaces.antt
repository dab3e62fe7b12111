-- What holds at the places of lists.
use Rattle.wq_words.proofs.Common.{◌≡◌, ℕ, ◌+◌, ◌<◌, ◌≤◌, List, [], ◌∷◌, ◌++◌, length, take, get_or, inl, inr, sym, ap, ◌∙◌, subst, arith, length-append}
use Rattle.wq_words.proofs.Common.{cases_lt, take_more}
use Rattle.std.proofs.lemmas.List.{get_or_append_left, get_or_push}
use Rattle.std.proofs.lemmas.List.{same_from_push}

-- what holds of the elements of two lists at each place holds where one comes behind each
pub both_more : {A B : Type 0} (P : ℕ → A → B → Type 0) (xs : List A) (ys : List B) (x : A) (y : B) → length ys ≡ length xs
    → ((i : ℕ) (d : A) (e : B) → i < length xs → P i (get_or xs i d) (get_or ys i e)) → P (length xs) x y
    → (i : ℕ) (d : A) (e : B) → i < length (xs ++ x ∷ []) → P i (get_or (xs ++ x ∷ []) i d) (get_or (ys ++ y ∷ []) i e)
both_more {A} {B} P xs ys x y same before here i d e lt = elim (cases_lt i (length xs)) [
  | inl less ↦
      subst (λ (a : A). P i a (get_or (ys ++ y ∷ []) i e)) (sym (get_or_append_left xs (x ∷ []) d i less))
      (subst (λ (b : B). P i (get_or xs i d) b) (sym (get_or_append_left ys (y ∷ []) e i (omega (arith, less, same)))) (before i d e less))
  | inr ge ↦
      let at : length xs ≡ i = omega (arith, lt, ge, length-append xs (x ∷ [])) in
      subst (λ (a : A). P i a (get_or (ys ++ y ∷ []) i e)) (sym (get_or_push xs x d i at))
      (subst (λ (b : B). P i x b) (sym (get_or_push ys y e i (omega (arith, same, at)))) (subst (λ (k : ℕ). P k x y) at here))
]

-- the last of the first elements
pub popped : {A : Type 0} (all old new : List A) (x : A) (k m : ℕ) → m ≡ k + 1 → m ≤ length all → old ≡ take m all → old ≡ new ++ x ∷ []
    → (new ≡ take k all) × (x ≡ get_or all k x)
popped all old new x k m next within first last =
    let at : take m all ≡ take (k + 1) all = ap (λ (n : ℕ). take n all) next in
    same_from_push new (take k all) x (get_or all k x) (sym last ∙ (first ∙ (at ∙ take_more all k x (omega (arith, next, within)))))
