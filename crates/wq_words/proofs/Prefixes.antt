-- Lists that begin others.
use Rattle.wq_words.proofs.Common.{◌≡◌, ◌≤◌, List, [], ◌∷◌, ◌++◌, length, Some, slice_get, refl, sym, ap, ◌∙◌, append_assoc, arith, length-append, append-nil}
use Rattle.wq_words.proofs.Common.{IsPrefix}

module _ {A : Type 0} where
  pub nothing_more : (xs ys : List A) → xs ++ ys ≡ xs → ys ≡ []
  nothing_more [] ys is = is
  nothing_more (x ∷ xs) ys is = nothing_more xs ys (cc)

  pub left_nil : (xs ys : List A) → xs ++ ys ≡ [] → xs ≡ []
  left_nil [] ys is = refl
  left_nil (x ∷ xs) ys is = absurd (cc)

  pub right_nil : (xs ys : List A) → xs ++ ys ≡ [] → ys ≡ []
  right_nil [] ys is = is
  right_nil (x ∷ xs) ys is = absurd (cc)

  pub prefix_self : (xs : List A) → IsPrefix xs xs
  prefix_self xs = ([], append-nil xs)

  pub prefix_append : (xs ys zs : List A) → IsPrefix xs ys → IsPrefix xs (ys ++ zs)
  prefix_append xs ys zs p = (p.0 ++ zs, sym (append_assoc xs p.0 zs) ∙ ap (λ (l : List A). l ++ zs) p.1)

  pub prefix_on : (xs ys zs : List A) → IsPrefix xs ys → IsPrefix ys zs → IsPrefix xs zs
  prefix_on xs ys zs p q = (p.0 ++ q.0, sym (append_assoc xs p.0 q.0) ∙ (ap (λ (l : List A). l ++ q.0) p.1 ∙ q.1))

  pub prefix_step : (xs ys : List A) (y : A) → IsPrefix xs ys → slice_get ys (length xs) ≡ Some y → IsPrefix (xs ++ y ∷ []) ys
  prefix_step [] [] y p at = absurd cc
  prefix_step [] (z ∷ ys) y p at = (ys, cc)
  prefix_step (x ∷ xs) [] y p at = absurd (cc (p.1))
  prefix_step (x ∷ xs) (z ∷ ys) y p at =
      let rest = prefix_step xs ys y (p.0, cc (p.1)) at in (rest.0, cc (p.1, rest.1))

  pub prefix_length : (xs ys : List A) → IsPrefix xs ys → length xs ≤ length ys
  prefix_length xs ys p = omega (arith, sym (ap length p.1) ∙ length-append xs p.0)

  -- a list as long as the one that it begins is the whole
  pub prefix_whole : (xs ys : List A) → IsPrefix xs ys → length ys ≤ length xs → xs ≡ ys
  prefix_whole [] [] p le = refl
  prefix_whole [] (y ∷ ys) p le = absurd (omega arith)
  prefix_whole (x ∷ xs) [] p le = absurd (cc (p.1))
  prefix_whole (x ∷ xs) (y ∷ ys) p le =
      let rest = prefix_whole xs ys (p.0, cc (p.1)) (omega arith) in cc (p.1, rest)
