-- What stands before and after the last element that passes.
use Rattle.wq_words.proofs.Common.{◌≡◌, ◌+◌, ◌-◌, Bool, true, false, not, cond, List, [], ◌∷◌, ◌++◌, length, take, drop, ap, ◌∙◌, arith, suffix_len, prefix_len}
use Rattle.wq_words.proofs.Common.{before_last, after_last, reverse-append, length_push, take-append-le, drop-append-le, take_all, drop_all}
use Rattle.wq_words.proofs.Common.{suffix_len-le-length}

-- what stands before and after the last element that passes, with one more element
module _ {X : Type 0} (p : X → Bool) (xs : List X) (x : X) where
  suffix_len_push : suffix_len p (xs ++ x ∷ []) ≡ cond (p x) (1 + suffix_len p xs) 0
  suffix_len_push = ap (prefix_len p) (reverse-append xs (x ∷ []))

module _ {X : Type 0} (p : X → Bool) (xs : List X) (x : X) where
  suffix_yes : p x ≡ true → suffix_len (λ y. not (p y)) (xs ++ x ∷ []) ≡ 0
  suffix_yes is = rw is at (suffix_len_push (λ y. not (p y)) xs x)

  suffix_no : p x ≡ false → suffix_len (λ y. not (p y)) (xs ++ x ∷ []) ≡ 1 + suffix_len (λ y. not (p y)) xs
  suffix_no is = rw is at (suffix_len_push (λ y. not (p y)) xs x)

  pub before_last_push_yes : p x ≡ true → before_last p (xs ++ x ∷ []) ≡ xs
  before_last_push_yes is =
      let size : length (xs ++ x ∷ []) - suffix_len (λ y. not (p y)) (xs ++ x ∷ []) - 1 ≡ length xs = omega (arith, length_push xs x, suffix_yes is) in
      ap (λ n. take n (xs ++ x ∷ [])) size ∙ take-append-le (length xs) xs (x ∷ []) (omega arith) ∙ take_all (length xs) xs (omega arith)

  pub before_last_push_no : p x ≡ false → before_last p (xs ++ x ∷ []) ≡ before_last p xs
  before_last_push_no is =
      let size : length (xs ++ x ∷ []) - suffix_len (λ y. not (p y)) (xs ++ x ∷ []) - 1 ≡ length xs - suffix_len (λ y. not (p y)) xs - 1 =
      omega (arith, length_push xs x, suffix_no is) in
      ap (λ n. take n (xs ++ x ∷ [])) size ∙ take-append-le (length xs - suffix_len (λ y. not (p y)) xs - 1) xs (x ∷ []) (omega arith)

  pub after_last_push_yes : p x ≡ true → after_last p (xs ++ x ∷ []) ≡ []
  after_last_push_yes is = drop_all _ (xs ++ x ∷ []) (omega (arith, suffix_yes is))

  pub after_last_push_no : p x ≡ false → after_last p (xs ++ x ∷ []) ≡ after_last p xs ++ x ∷ []
  after_last_push_no is =
      let size : length (xs ++ x ∷ []) - suffix_len (λ y. not (p y)) (xs ++ x ∷ []) ≡ length xs - suffix_len (λ y. not (p y)) xs =
      omega (arith, length_push xs x, suffix_no is, suffix_len-le-length (λ y. not (p y)) xs) in
      ap (λ n. drop n (xs ++ x ∷ [])) size ∙ drop-append-le (length xs - suffix_len (λ y. not (p y)) xs) xs (x ∷ []) (omega arith)
