-- Lists of any elements: one element over and over, what is left behind some, and lists with an element in them.
use Rattle.wq_words.proofs.Common.{◌≡◌, ℕ, zero, suc, ◌≤◌, Bool, true, false, cond, List, [], ◌∷◌, ◌++◌, length, drop, filter, get_or, slice_get, Some, refl, arith}
use Rattle.std.proofs.Common.{replicate}

pub all_alike : {A : Type 0} (n k : ℕ) (x : A) → get_or (replicate n x) k x ≡ x
all_alike zero k x = refl
all_alike (suc n) zero x = refl
all_alike (suc n) (suc k) x = all_alike n k x

pub slice_get-drop : {A : Type 0} (n : ℕ) (xs : List A) → slice_get (drop n xs) 0 ≡ slice_get xs n
slice_get-drop zero xs = refl
slice_get-drop (suc n) [] = refl
slice_get-drop (suc n) (x ∷ xs) = slice_get-drop n xs

pub none_cons : {A : Type 0} (xs : List A) (x : A) (ys : List A) → xs ++ x ∷ ys ≡ [] → ⊥
none_cons [] x ys is = cc
none_cons (z ∷ xs) x ys is = cc

module _ {A : Type 0} where
  abbrev Stands : A → List A → Type 0
  Stands e xs = (place : ℕ) × (slice_get xs place ≡ Some e)

  one_more : (b : Bool) (x : A) (xs rest : List A) (e : A) → (rest ≡ e ∷ [] → Stands e xs) → cond b (x ∷ rest) rest ≡ e ∷ [] → Stands e (x ∷ xs)
  one_more true x xs rest e more is = (zero, cc)
  one_more false x xs rest e more is = let it = more is in (suc it.0, it.1)

  -- what alone passes stands somewhere
  pub alone : (p : A → Bool) (xs : List A) (e : A) → filter p xs ≡ e ∷ [] → Stands e xs
  alone p [] e is = absurd (cc)
  alone p (x ∷ xs) e is = one_more (p x) x xs (filter p xs) e (λ t. alone p xs e t) is

  -- and so it does behind others
  pub behind : (xs ys : List A) (e : A) → Stands e ys → (place : ℕ) × (length xs ≤ place) × (slice_get (xs ++ ys) place ≡ Some e)
  behind [] ys e at = (at.0, omega arith, at.1)
  behind (x ∷ xs) ys e at = let it = behind xs ys e at in (suc it.0, omega (arith, it.1), it.2)
