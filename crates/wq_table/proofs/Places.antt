-- A view once its part at a place has made a step, and all others have seen it.
use Rattle.wq_table.proofs.Common.{◌≡◌, ℕ, zero, suc, ◌≢◌, List, [], ◌∷◌, sym, refl, ap, ◌∙◌, subst, inl, inr, ⊎_elim, Event, owner_seat, Machine}
use Rattle.wq_table.proofs.Common.{link, StandsIn, Part, View, IsPartOf, ArePartsAt, HasPartOf, HasSeenAll, all_see, AllOf, see, chosen, besides}
use Rattle.wq_table.proofs.Common.{prefix_self}
use Rattle.wq_table.specs.Law.{Apart}
use Rattle.wq_table.proofs.Present.{seat_meets}
use Rattle.wq_table.proofs.Views.{apart_all, fit_all}
use Rattle.wq_table.proofs.Changes.{Change, fits_other}

-- its first part and its rest, where the part at the place is q then, and the others have seen h
abbrev pub moved_first : ℕ → List Event → Part → Part → View → Part
moved_first zero h q p ps = q
moved_first (suc n) h q p [] = q
moved_first (suc n) h q p (r ∷ rs) = see h p

abbrev pub moved_rest : ℕ → List Event → Part → Part → View → View
moved_rest zero h q p ps = all_see h ps
moved_rest (suc n) h q p [] = []
moved_rest (suc n) h q p (r ∷ rs) = moved_first n h q r rs ∷ moved_rest n h q r rs

pub moved_chosen : (n : ℕ) (h : List Event) (q p : Part) (ps : View) → chosen n (moved_first n h q p ps) (moved_rest n h q p ps) ≡ q
moved_chosen zero h q p ps = refl
moved_chosen (suc n) h q p [] = refl
moved_chosen (suc n) h q p (r ∷ rs) = moved_chosen n h q r rs

pub moved_besides : (n : ℕ) (h : List Event) (q p : Part) (ps : View) → besides n (moved_first n h q p ps) (moved_rest n h q p ps) ≡ all_see h (besides n p ps)
moved_besides zero h q p ps = refl
moved_besides (suc n) h q p [] = refl
moved_besides (suc n) h q p (r ∷ rs) = ap (λ (v : View). see h p ∷ v) (moved_besides n h q r rs)

-- the part at the place fits, and has its seat there
pub chosen_fits : (m : Machine) (who : ℕ → ℕ) (i n : ℕ) (p : Part) (ps : View) → ArePartsAt m who i (p ∷ ps)
    → IsPartOf m (chosen n p ps) × (who (chosen n p ps).seat ≡ i)
chosen_fits m who i zero p ps all = (all.0, all.1)
chosen_fits m who i (suc n) p [] all = (all.0, all.1)
chosen_fits m who i (suc n) p (r ∷ rs) all = chosen_fits m who i n r rs all.3

chosen_apart : (c n : ℕ) (p : Part) (ps : View) → Apart c (p ∷ ps) → (chosen n p ps).seat ≢ c
chosen_apart c zero p ps apart = apart.0
chosen_apart c (suc n) p [] apart = apart.0
chosen_apart c (suc n) p (r ∷ rs) apart = chosen_apart c n r rs apart.1

-- the parts are of the same seats
apart_moved : (m : Machine) (c : ℕ) (q : Part) (n : ℕ) (p : Part) (ps : View) → q.seat ≡ (chosen n p ps).seat → Apart c (p ∷ ps)
    → Apart c (moved_first n m.history q p ps ∷ moved_rest n m.history q p ps)
apart_moved m c q zero p ps same apart = ((λ e. apart.0 (sym same ∙ e)), apart_all m c ps apart.1)
apart_moved m c q (suc n) p [] same apart = ((λ e. apart.0 (sym same ∙ e)), tt)
apart_moved m c q (suc n) p (r ∷ rs) same apart = (apart.0, apart_moved m c q n r rs same apart.1)

pub seat_moved : (c : ℕ) (h : List Event) (q : Part) (n : ℕ) (p : Part) (ps : View) → q.seat ≡ (chosen n p ps).seat → HasPartOf c (p ∷ ps)
    → HasPartOf c (moved_first n h q p ps ∷ moved_rest n h q p ps)
seat_moved c h q zero p ps same has = ⊎_elim (λ (e : p.seat ≡ c). inl (same ∙ e)) (λ (e : HasPartOf c ps). inr (seat_meets c h ps e)) has
seat_moved c h q (suc n) p [] same has = ⊎_elim (λ (e : p.seat ≡ c). inl (same ∙ e)) (λ (e : ⊥). absurd e) has
seat_moved c h q (suc n) p (r ∷ rs) same has =
    ⊎_elim (λ (e : p.seat ≡ c). inl e) (λ (e : HasPartOf c (r ∷ rs)). inr (seat_moved c h q n r rs same e)) has

pub seen_moved : (h : List Event) (q : Part) (n : ℕ) (p : Part) (ps : View) → q.seen ≡ h
    → HasSeenAll h (moved_first n h q p ps ∷ moved_rest n h q p ps)
seen_moved h q zero p ps all = inl all
seen_moved h q (suc n) p [] all = inl all
seen_moved h q (suc n) p (r ∷ rs) all = inl refl

-- each part has seen just h
abbrev pub AllSeen : List Event → View → Type 0
AllSeen h [] = Unit {0}
AllSeen h (p ∷ ps) = (p.seen ≡ h) × AllSeen h ps

pub seeing_seen : (h : List Event) (v : View) → AllSeen h (all_see h v)
seeing_seen h [] = tt
seeing_seen h (p ∷ ps) = (refl, seeing_seen h ps)

pub all_moved : (h : List Event) (q : Part) (n : ℕ) (p : Part) (ps : View) → q.seen ≡ h → AllSeen h (moved_first n h q p ps ∷ moved_rest n h q p ps)
all_moved h q zero p ps is = (is, seeing_seen h ps)
all_moved h q (suc n) p [] is = (is, tt)
all_moved h q (suc n) p (r ∷ rs) is = (refl, all_moved h q n r rs is)

-- a part that fits still does once it has seen all
pub fits_seeing : (m : Machine) (p : Part) → IsPartOf m p → IsPartOf m (see m.history p)
fits_seeing m p fits = record { layout_is = fits.layout_is; begins = prefix_self m.history; mine = refl; keeps = fits.keeps; links = fits.links }

-- from m to n by a step of the part at the place, which is of the seat c
module _ (m n : Machine) (who : ℕ → ℕ) (i c : ℕ) (change : Change m n c)
    (spared : c ≢ owner_seat → (k : ℕ) → StandsIn m.walked m.batch k → link n k ≡ link m k) where
  rest_fit : (v : View) → Apart c v → ArePartsAt m who i v → ArePartsAt n who i v
  rest_fit [] apart all = tt
  rest_fit (r ∷ rs) apart all = (fits_other m n c r change spared apart.0 all.0, all.1, all.2, rest_fit rs apart.1 all.3)

  rest_of_it : (v : View) → Apart c v → ArePartsAt m who i v → AllOf n v
  rest_of_it [] apart all = tt
  rest_of_it (r ∷ rs) apart all = (fits_other m n c r change spared apart.0 all.0, rest_of_it rs apart.1 all.3)

  first_fits : (k : ℕ) (p r : Part) (rs : View) → (chosen k r rs).seat ≡ c → ArePartsAt m who i (p ∷ r ∷ rs) → IsPartOf n p
  first_fits k p r rs is all = fits_other m n c p change spared (λ e. chosen_apart p.seat k r rs all.2 (is ∙ sym e)) all.0

  -- all parts fit afterwards
  pub moved_fit : (k : ℕ) (p : Part) (ps : View) (q : Part) → (chosen k p ps).seat ≡ c → q.seat ≡ (chosen k p ps).seat → IsPartOf n q
      → ArePartsAt m who i (p ∷ ps) → ArePartsAt n who i (moved_first k n.history q p ps ∷ moved_rest k n.history q p ps)
  moved_fit zero p ps q is same fits all = let apart : Apart c ps = subst (λ (d : ℕ). Apart d ps) is all.2 in (
    fits,
    ap who same ∙ all.1,
    subst (λ (d : ℕ). Apart d (all_see n.history ps)) (sym (same ∙ is)) (apart_all n c ps apart),
    fit_all n who i ps (rest_fit ps apart all.3),
  )
  moved_fit (suc k) p [] q is same fits all = (fits, ap who same ∙ all.1, tt, tt)
  moved_fit (suc k) p (r ∷ rs) q is same fits all = (
    fits_seeing n p (first_fits k p r rs is all),
    all.1,
    apart_moved n p.seat q k r rs same all.2,
    moved_fit k r rs q is same fits all.3,
  )

  -- all others fit as they were
  pub still_fits : (k : ℕ) (p : Part) (ps : View) → (chosen k p ps).seat ≡ c → ArePartsAt m who i (p ∷ ps) → AllOf n (besides k p ps)
  still_fits zero p ps is all = rest_of_it ps (subst (λ (d : ℕ). Apart d ps) is all.2) all.3
  still_fits (suc k) p [] is all = tt
  still_fits (suc k) p (r ∷ rs) is all = (first_fits k p r rs is all, still_fits k r rs is all.3)
