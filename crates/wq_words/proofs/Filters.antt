-- What a filter keeps of a list.
use Rattle.wq_words.proofs.Common.{◌≡◌, ℕ, ◌≤◌, Bool, true, false, List, [], ◌∷◌, length, Option, None, Some, refl, sym, ap, ◌∙◌, arith, filter, filter_map}
use Rattle.std.proofs.lemmas.List.Sums.{length-filter, count_by-le-length}

-- a filter, and what is picked from what it keeps
module _ {X Y : Type 0} (f : X → Option Y) (p : X → Bool) (q : Y → Bool) (same : (x : X) (y : Y) → f x ≡ Some y → p x ≡ q y) where
  pub filter_map-filter : (xs : List X) → filter_map f (filter p xs) ≡ filter q (filter_map f xs)
  filter_map-filter [] = refl
  filter_map-filter (x ∷ xs) = go (f x) refl (p x) refl (filter_map-filter xs)
    where
      go : (o : Option Y) → f x ≡ o → (b : Bool) → p x ≡ b → filter_map f (filter p xs) ≡ filter q (filter_map f xs)
          → filter_map f (filter p (x ∷ xs)) ≡ filter q (filter_map f (x ∷ xs))
      go None none true keeps rest = rw (keeps, none) rest
      go None none false drops rest = rw (drops, none) rest
      go (Some y) is true keeps rest = let kept : q y ≡ true = sym (same x y is) ∙ keeps in rw (keeps, is, kept) (ap (λ ys. y ∷ ys) rest)
      go (Some y) is false drops rest = let none : q y ≡ false = sym (same x y is) ∙ drops in rw (drops, is, none) rest

pub length-filter-le : (p : ℕ → Bool) (xs : List ℕ) → length (filter p xs) ≤ length xs
length-filter-le p xs = omega (arith, length-filter p xs, count_by-le-length p xs)
