-- What a loop has counted of a list, up to a place and with the element there.
use Rattle.wq_words.proofs.Common.{◌≡◌, ℕ, ◌+◌, ◌<◌, ◌≤◌, Bool, true, false, cond, List, [], ◌∷◌, suc, length, take, get_or, refl, sym, ap, ◌∙◌, count_by, add-zero, take_all, nat_lt, ◌↔◌}
use Rattle.wq_words.proofs.Common.{after_last, take_more, arith, filter_map, sum_by-cons, Option, Some, None}
use Rattle.std.proofs.Common.{is_some, IsTrue}
use Rattle.std.proofs.lemmas.Bool.{ltb-true, lt-ltb}
use Rattle.std.proofs.lemmas.List.Sums.{sum_by_more}
use mir.Val.{bool_byte}
use Rattle.wq_words.proofs.Growing.{count_by_push}
use Rattle.wq_words.proofs.Lasts.{after_last_push_yes, after_last_push_no}

byte : (b : Bool) → bool_byte b ≡ cond b 1 0
byte true = refl
byte false = refl

byte-le : (b : Bool) → bool_byte b ≤ 1
byte-le true = omega arith
byte-le false = omega arith

module _ {X : Type 0} (p : X → Bool) (xs : List X) where
  -- n of the first i elements pass
  abbrev pub IsCounted : ℕ → ℕ → Type 0
  IsCounted i n = (n ≡ count_by p (take i xs)) × (n ≤ i)

  module _ (i : ℕ) (d : X) (here : i < length xs) where
    counted : count_by p (take (i + 1) xs) ≡ count_by p (take i xs) + cond (p (get_or xs i d)) 1 0
    counted = sum_by_more (λ x. cond (p x) 1 0) xs i d here

    -- a count that goes up by one where the element passes
    pub counted_next : {n more : ℕ} {b : Bool} → IsCounted i n → b ≡ p (get_or xs i d) → more ≡ bool_byte b → IsCounted (i + 1) (n + more)
    counted_next {b = b} so_far is more =
        (omega (arith, so_far.0, counted, more, ap bool_byte is, byte (p (get_or xs i d))), omega (arith, so_far.1, more, byte-le b))

    -- a count of what stands after the last element that passes another test
    pub counted_since_yes : (q : X → Bool) → q (get_or xs i d) ≡ true → count_by p (after_last q (take (i + 1) xs)) ≡ 0
    counted_since_yes q is =
        ap (λ ys. count_by p (after_last q ys)) (take_more xs i d here) ∙ ap (count_by p) (after_last_push_yes q (take i xs) (get_or xs i d) is)

    pub counted_since_no : (q : X → Bool) → q (get_or xs i d) ≡ false
        → count_by p (after_last q (take (i + 1) xs)) ≡ count_by p (after_last q (take i xs)) + cond (p (get_or xs i d)) 1 0
    counted_since_no q is =
        ap (λ ys. count_by p (after_last q ys)) (take_more xs i d here) ∙ ap (count_by p) (after_last_push_no q (take i xs) (get_or xs i d) is)
        ∙ count_by_push p (after_last q (take i xs)) (get_or xs i d)

-- whether fewer pass one test than another, as the end of the list shows
pub counted_less : {X : Type 0} (p q : X → Bool) (xs : List X) {i m n : ℕ} → IsCounted p xs i m → IsCounted q xs i n → length xs ≤ i
    → IsTrue (nat_lt m n) ↔ (count_by p xs < count_by q xs)
counted_less p q xs {i} {m} {n} fewer more end =
    let all : take i xs ≡ xs = take_all i xs end in (
      λ is. omega (arith, fewer.0, more.0, ap (count_by p) all, ap (count_by q) all, ltb-true m n is),
      λ lt. lt-ltb m n (omega (arith, fewer.0, more.0, ap (count_by p) all, ap (count_by q) all, lt)),
    )

-- what `filter_map` makes of the first i elements
module _ {X Y : Type 0} (f : X → Option Y) where
  length-filter_map : (xs : List X) → length (filter_map f xs) ≡ count_by (λ x. is_some (f x)) xs
  length-filter_map [] = refl
  length-filter_map (x ∷ xs) = go (f x) refl (length-filter_map xs)
    where
      one : count_by (λ y. is_some (f y)) (x ∷ xs) ≡ cond (is_some (f x)) 1 0 + count_by (λ y. is_some (f y)) xs
      one = sum_by-cons (λ y. cond (is_some (f y)) 1 0) x xs

      go : (o : Option Y) → f x ≡ o → length (filter_map f xs) ≡ count_by (λ y. is_some (f y)) xs
          → length (filter_map f (x ∷ xs)) ≡ count_by (λ y. is_some (f y)) (x ∷ xs)
      go None none rest =
          let same : length (filter_map f (x ∷ xs)) ≡ length (filter_map f xs) = rw none refl in
          omega (arith, same, rest, one, ap {B = ℕ} (λ o. cond (is_some o) 1 0) none)
      go (Some y) some rest =
          let more : length (filter_map f (x ∷ xs)) ≡ suc (length (filter_map f xs)) = rw some refl in
          omega (arith, more, rest, one, ap {B = ℕ} (λ o. cond (is_some o) 1 0) some)

  module _ (xs : List X) where
    -- n elements come of the first i
    abbrev pub IsMapped : ℕ → ℕ → Type 0
    IsMapped i n = (n ≡ length (filter_map f (take i xs))) × (n ≤ i)

    module _ (i : ℕ) (d : X) (here : i < length xs) where
      pub mapped_next : {n more : ℕ} {o : Option Y} {b : Bool} → IsMapped i n → o ≡ f (get_or xs i d) → b ≡ is_some o → more ≡ bool_byte b
          → IsMapped (i + 1) (n + more)
      mapped_next so_far is some more =
          let passes : X → Bool = λ x. is_some (f x) in
          let next = counted_next passes xs i d here (so_far.0 ∙ length-filter_map (take i xs), so_far.1) (some ∙ ap is_some is) more in
          (next.0 ∙ sym (length-filter_map (take (i + 1) xs)), next.1)

      pub mapped_some : {n : ℕ} {y : Y} → IsMapped i n → Some y ≡ f (get_or xs i d) → IsMapped (i + 1) (n + 1)
      mapped_some so_far is = mapped_next so_far is refl refl

      pub mapped_none : {n : ℕ} → IsMapped i n → None ≡ f (get_or xs i d) → IsMapped (i + 1) n
      mapped_none so_far is = rw add-zero at (mapped_next so_far is refl refl)
