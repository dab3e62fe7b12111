-- Places of a list and of what `filter_map` takes of it.
use Rattle.wq_words.proofs.Common.{◌≡◌, ℕ, zero, suc, ◌<◌, ◌≤◌, List, [], ◌∷◌, length, take, drop, Option, Some, None, slice_get, refl, sym, ap, ◌∙◌, arith}
use Rattle.wq_words.proofs.Common.{filter_map, filter_map-append, take-take, take-append-drop, length-append, IsPrefix}
use Rattle.wq_words.proofs.Growing.{slice_get_append}

module _ {X Y : Type 0} (f : X → Option Y) where
  -- what an element gives stands behind what those before it give
  pub filter_map_rank : (xs : List X) (i : ℕ) (x : X) (y : Y) → slice_get xs i ≡ Some x → f x ≡ Some y
      → slice_get (filter_map f xs) (length (filter_map f (take i xs))) ≡ Some y
  filter_map_rank [] i x y at is = absurd cc
  filter_map_rank (z ∷ xs) zero x y at is = let e : f z ≡ Some y = cc in rw e refl
  filter_map_rank (z ∷ xs) (suc i) x y at is = by (f z) refl (filter_map_rank xs i x y at is)
    where
      by : (o : Option Y) → f z ≡ o → slice_get (filter_map f xs) (length (filter_map f (take i xs))) ≡ Some y
          → slice_get (filter_map f (z ∷ xs)) (length (filter_map f (z ∷ take i xs))) ≡ Some y
      by (Some w) e rest = rw e rest
      by None e rest = rw e rest

  -- what stands at a place of the result comes from an element
  abbrev pub ComesFrom : List X → ℕ → Y → Type 0
  ComesFrom xs n y = (i : ℕ) × (x : X) × (slice_get xs i ≡ Some x) × (f x ≡ Some y) × (length (filter_map f (take i xs)) ≡ n)

  pub comes_from : (xs : List X) (n : ℕ) (y : Y) → slice_get (filter_map f xs) n ≡ Some y → ComesFrom xs n y
  comes_from [] n y at = absurd cc
  comes_from (z ∷ xs) n y at = by (f z) refl n (λ m. comes_from xs m y) at
    where
      by : (o : Option Y) → f z ≡ o → (n : ℕ) → ((m : ℕ) → slice_get (filter_map f xs) m ≡ Some y → ComesFrom xs m y)
          → slice_get (filter_map f (z ∷ xs)) n ≡ Some y → ComesFrom (z ∷ xs) n y
      by None e n rest at = let l = rest n (rw e at at) in (suc l.0, l.1, l.2, l.3, rw e l.4)
      by (Some w) e zero rest at = let at' : Some w ≡ Some y = rw e at at in (zero, z, refl, e ∙ at', refl)
      by (Some w) e (suc n) rest at = let l = rest n (rw e at at) in (suc l.0, l.1, l.2, l.3, rw e (ap suc l.4))

  pub length-filter_map-take : (xs : List X) (m n : ℕ) → m ≤ n → length (filter_map f (take m xs)) ≤ length (filter_map f (take n xs))
  length-filter_map-take xs m n le =
      omega (
        arith,
        ap (λ l. length (filter_map f l)) (take-append-drop m (take n xs)),
        ap length (filter_map-append f (take m (take n xs)) (drop m (take n xs))),
        length-append (filter_map f (take m (take n xs))) (filter_map f (drop m (take n xs))),
        ap (λ l. length (filter_map f l)) (take-take m n xs le),
      )

  pub filter_map-take-prefix : (xs : List X) (n : ℕ) → IsPrefix (filter_map f (take n xs)) (filter_map f xs)
  filter_map-take-prefix xs n = (filter_map f (drop n xs), sym (filter_map-append f (take n xs) (drop n xs)) ∙ ap (filter_map f) (take-append-drop n xs))

-- a place of a beginning is one of the whole
pub slice_get-prefix : {X : Type 0} (xs ys : List X) (i : ℕ) (x : X) → IsPrefix xs ys → slice_get xs i ≡ Some x → slice_get ys i ≡ Some x
slice_get-prefix xs ys i x p at = ap (λ l. slice_get l i) (sym p.1) ∙ slice_get_append xs p.0 i x at

pub slice_get-take : {X : Type 0} (xs : List X) (n i : ℕ) → i < n → slice_get (take n xs) i ≡ slice_get xs i
slice_get-take [] zero i lt = refl
slice_get-take [] (suc n) i lt = refl
slice_get-take (x ∷ xs) zero i lt = absurd (omega arith)
slice_get-take (x ∷ xs) (suc n) zero lt = refl
slice_get-take (x ∷ xs) (suc n) (suc i) lt = slice_get-take xs n i (omega arith)

pub slice_get-some : {X : Type 0} (xs : List X) (i : ℕ) → i < length xs → (x : X) × (slice_get xs i ≡ Some x)
slice_get-some [] i lt = absurd (omega arith)
slice_get-some (x ∷ xs) zero lt = (x, refl)
slice_get-some (x ∷ xs) (suc i) lt = slice_get-some xs i (omega arith)
