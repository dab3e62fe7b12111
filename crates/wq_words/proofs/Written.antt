-- Lists that are written to, or grow, one place after another.
use Rattle.wq_words.proofs.Common.{◌≡◌, ◌≢◌, ℕ, ◌+◌, ◌<◌, ◌≤◌, List, [], ◌∷◌, ◌++◌, length, take, drop, get_or, set, sym, ap, ◌∙◌, subst, arith}
use Rattle.wq_words.proofs.Common.{length-append, get_or-set_other, get_or-set_same, get_or_default}
use Rattle.std.proofs.Math.ListN.{get_or-append}
use Rattle.std.proofs.Math.Seq.{get_or-append_seam}
use Rattle.wq_words.proofs.Growing.{take_length}
use Rattle.std.proofs.Common.{below_more}

-- what holds of each of the elements at its place holds where one comes behind them
pub each_more : {A : Type 0} (P : ℕ → A → Type 0) (xs : List A) (x : A) → ((i : ℕ) (d : A) → i < length xs → P i (get_or xs i d)) → P (length xs) x
    → (i : ℕ) (d : A) → i < length (xs ++ x ∷ []) → P i (get_or (xs ++ x ∷ []) i d)
each_more P xs x before here i d lt =
    below_more (λ k. P k (get_or (xs ++ x ∷ []) k d)) (length xs)
    (λ k less. subst (P k) (sym (get_or-append xs (x ∷ []) d k less)) (before k d less))
    (subst (P (length xs)) (sym (get_or-append_seam xs x [] d)) here) i (omega (arith, lt, length-append xs (x ∷ [])))

-- what holds of the old and the new element at each place below i, where the others are the old ones, holds of those below the next
-- where x is set at i and it holds of x
pub each_written : {A : Type 0} (P : A → A → Type 0) (olds news : List A) (i : ℕ) (x y : A) → i < length news
    → ((k : ℕ) (d : A) → k < i → P (get_or olds k d) (get_or news k d)) → ((k : ℕ) (d : A) → i ≤ k → get_or news k d ≡ get_or olds k d)
    → P (get_or news i y) x → (k : ℕ) (d : A) → k < i + 1 → P (get_or olds k d) (get_or (set news i x) k d)
each_written {A} P olds news i x y here below rest at k d lt =
    below_more (λ k. P (get_or olds k d) (get_or (set news i x) k d)) i
    (λ k less. let ne : k ≢ i = omega arith in subst (λ (z : A). P (get_or olds k d) z) (sym (get_or-set_other news i k x d ne)) (below k d less))
    (subst (λ (z : A). P (get_or olds i d) z) (sym (get_or-set_same news i x d here))
    (subst (λ (z : A). P z x) (get_or_default news i y d here ∙ rest i d (omega arith)) at)) k lt

-- the others are the old ones there
pub rest_written : {A : Type 0} (olds news : List A) (i : ℕ) (x : A) → ((k : ℕ) (d : A) → i ≤ k → get_or news k d ≡ get_or olds k d)
    → (k : ℕ) (d : A) → i + 1 ≤ k → get_or (set news i x) k d ≡ get_or olds k d
rest_written olds news i x rest k d le = let ne : k ≢ i = omega arith in get_or-set_other news i k x d ne ∙ rest k d (omega arith)

-- a list that was written to as a slice, from its beginning to its end
pub whole_items : {A : Type 0} (n : ℕ) (news olds : List A) → length news ≡ n → take n (news ++ drop (length news) olds) ≡ news
whole_items n news olds size = ap (λ (k : ℕ). take k (news ++ drop (length news) olds)) (sym size) ∙ take_length news (drop (length news) olds)
