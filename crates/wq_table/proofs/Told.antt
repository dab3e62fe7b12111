-- The parts of a chair are of one queue, before a step and after it.
use Rattle.wq_table.proofs.Common.{◌≡◌, ◌≢◌, ℕ, zero, suc, List, [], ◌∷◌, refl, ap, ◌∙◌, Layout, Event, Part, View, all_see, chosen, besides}
use Rattle.wq_table.proofs.Common.{AreSized}

module _ (l : Layout) where
  pub chosen_sized : (n : ℕ) (p : Part) (ps : View) → AreSized l (p ∷ ps) → (chosen n p ps).layout ≡ l
  chosen_sized zero p ps sized = sized.0
  chosen_sized (suc n) p [] sized = sized.0
  chosen_sized (suc n) p (r ∷ rs) sized = chosen_sized n r rs sized.1

  pub besides_sized : (n : ℕ) (p : Part) (ps : View) → AreSized l (p ∷ ps) → AreSized l (besides n p ps)
  besides_sized zero p ps sized = sized.1
  besides_sized (suc n) p [] sized = tt
  besides_sized (suc n) p (r ∷ rs) sized = (sized.0, besides_sized n r rs sized.1)

  pub all_sized : (n : ℕ) (p : Part) (ps : View) → (chosen n p ps).layout ≡ l → AreSized l (besides n p ps) → AreSized l (p ∷ ps)
  all_sized zero p ps one rest = (one, rest)
  all_sized (suc n) p [] one rest = (one, tt)
  all_sized (suc n) p (r ∷ rs) one rest = (rest.0, all_sized n r rs one rest.1)

  pub sized_seeing : (h : List Event) (v : View) → AreSized l v → AreSized l (all_see h v)
  sized_seeing h [] sized = tt
  sized_seeing h (p ∷ ps) sized = (sized.0, sized_seeing h ps sized.1)

-- a chair alone is alone after its step too
pub still_alone : (h : List Event) (n : ℕ) (p : Part) (ps : View) (q : Part) (qs : View) → besides n q qs ≡ all_see h (besides n p ps) → qs ≢ [] → ps ≢ []
still_alone h zero p ps q qs is some none = some (is ∙ ap (all_see h) none)
still_alone h (suc n) p ps q [] is some none = some refl
still_alone h (suc n) p [] q (r ∷ rs) is some none = absurd (cc)
still_alone h (suc n) p (x ∷ xs) q (r ∷ rs) is some none = absurd (cc)
