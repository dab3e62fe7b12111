-- What is left undone, number by number.
use Rattle.std.proofs.Common.{◌≡◌, ℕ, ◌+◌, ◌<◌, List, [], ◌∷◌, ◌++◌, length, take, get_or, Some, None, slice_get, sym, ap, ◌∙◌, arith, take_all}
use Rattle.std.proofs.lemmas.List.{take_more}
use Rattle.std.proofs.lemmas.Option.{get_or_from_slice_get, slice_get-get_or, none-some}

-- those before this place, of as many as there are
pub record LeftTo (left : List ℕ) (place end : ℕ) (numbers : List ℕ) : Type 0 where
  pub taken : numbers ≡ take place left
  pub count : end ≡ length left

module _ (left : List ℕ) (place end : ℕ) (numbers : List ℕ) (to : LeftTo left place end numbers) where
  pub left_more : (new : List ℕ) (n : ℕ) → place < end → Some n ≡ slice_get left place → new ≡ numbers ++ n ∷ [] → LeftTo left (place + 1) end new
  left_more new n here is added =
      let whole : place < length left = omega (arith, here, to.count) in
      let at : get_or left place 0 ≡ n = get_or_from_slice_get left place n 0 (sym is) in
      record {
        taken = added ∙ ap (λ (xs : List ℕ). xs ++ n ∷ []) to.taken
            ∙ sym (take_more left place 0 whole ∙ ap (λ m. take place left ++ m ∷ []) at);
        count = to.count;
      }

  pub left_none : place < end → None ≡ slice_get left place → ⊥
  left_none here is = none-some _ (is ∙ slice_get-get_or left place 0 (omega (arith, here, to.count)))

  pub left_all : end ≡ place → numbers ≡ left
  left_all done = to.taken ∙ take_all place left (omega (arith, to.count))
