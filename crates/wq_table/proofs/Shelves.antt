-- What lies in the slots, a step at a time, over plain lists.
use Rattle.wq_table.proofs.Common.{◌≡◌, ◌≢◌, ℕ, ◌<◌, ◌≤◌, List, [], ◌∷◌, ◌++◌, length, set, slice_get, Some, sym, ap, ◌∙◌, subst, ⊎_elim, arith}
use Rattle.wq_table.proofs.Common.{length-set, some, none, get_elem?, set_else, Keeper, Home, IsAway}
use Rattle.std.proofs.lemmas.List.{length_push}
use Rattle.std.proofs.lemmas.Option.{slice_get_within}
use mathlib.Core.Option as maybe
use mathlib.Core.Logic.{dite}
use native.Mathlib.Decide.{ℕ_discrete}
use Rattle.atomic_table.proofs.Lists.{set_here}
use Rattle.wq_words.proofs.Growing.{slice_get_push}
use Rattle.wq_table.specs.Slots.{HomesFit}

module _ {S : Type 0} (nothing : S) (R : ℕ → S → Type 0) (kp kp' : ℕ → Keeper) (out out' : ℕ
    → ℕ) (b b' : ℕ) (acs : List ℕ) (brs : List S) (homes : List (maybe.Option S))
    (fits : HomesFit nothing R kp out b acs brs homes) where
  -- no slot moves: nothing comes home or begins to wait
  pub fits_still : ((k : ℕ) → IsAway (kp' k) (out' k) → IsAway (kp k) (out k)) → ((k : ℕ) → kp' k ≡ Home → kp k ≡ Home) → ((k : ℕ) → out' k ≡ 0
      → out k ≡ 0) → b ≤ b' → HomesFit nothing R kp' out' b' acs brs homes
  fits_still gone home away later = record {
    as_many = fits.as_many;
    free = λ k low at. fits.free k low (home k at);
    waits = λ place k y low late stands none_out has. fits.waits place k y low (omega (arith, later, late)) stands (away k none_out) has;
    away = λ k low is. fits.away k low (gone k is);
    right = fits.right;
  }

  -- the slot of j is taken
  pub fits_taken : (j : ℕ) → ((k : ℕ) → k ≢ j → IsAway (kp' k) (out' k) → IsAway (kp k) (out k)) → ((k : ℕ) → kp' k ≡ Home → (k ≢ j) × (kp k ≡ Home))
      → ((place k : ℕ) → b ≤ place → slice_get acs place ≡ Some k → out' k ≡ 0 → (k ≢ j) × (out k ≡ 0))
      → b ≤ b' → HomesFit nothing R kp' out' b' acs brs (set homes j none)
  fits_taken j gone home away later = record {
    away = λ k low is. dite (ℕ_discrete k j)
        (λ same. subst (λ (z : ℕ). get_elem? (set homes j none) z ≡ some none) (sym same) (set_here homes j none (omega
        (arith, same, low, length-set homes j none))))
        (λ other. set_else homes j k none other ∙ fits.away k (omega (arith, low, length-set homes j none)) (gone k other is));
    as_many = fits.as_many;
    free = λ k low at. let old = home k at in set_else homes j k none old.0 ∙ fits.free k (omega (arith, low, length-set homes j none)) old.1;
    waits = λ place k y low late stands none_out has.
        let early : b ≤ place = omega (arith, later, late) in
        let old = away place k early stands none_out in
        set_else homes j k none old.0 ∙ fits.waits place k y (omega (arith, low, length-set homes j none)) early stands old.1 has;
    right = λ place k y some_slot stands has. fits.right place k y (omega (arith, some_slot, length-set homes j none)) stands has;
  }

  -- the slot of j is given back, with nothing in it
  pub fits_emptied : (j : ℕ) → ((k : ℕ) → IsAway (kp' k) (out' k) → (k ≢ j) × IsAway (kp k) (out k)) → ((k : ℕ) → kp' k ≡ Home → k ≢ j → kp k ≡ Home)
      → ((place k : ℕ) → b' ≤ place → slice_get acs place ≡ Some k → out' k ≡ 0 → (k ≢ j) × (out k ≡ 0))
      → b ≤ b' → HomesFit nothing R kp' out' b' acs brs (set homes j (some nothing))
  fits_emptied j gone home away later = record {
    away = λ k low is. let old = gone k is in set_else homes j k (some nothing) old.0 ∙
        fits.away k (omega (arith, low, length-set homes j (some nothing))) old.1;
    as_many = fits.as_many;
    free = λ k low at. dite (ℕ_discrete k j)
        (λ same. subst (λ (z : ℕ). get_elem? (set homes j (some nothing)) z ≡ some (some nothing)) (sym same)
        (set_here homes j (some nothing) (omega (arith, same, low, length-set homes j (some nothing)))))
        (λ other. set_else homes j k (some nothing) other ∙ fits.free k (omega (arith, low, length-set homes j (some nothing))) (home k at other));
    waits = λ place k y low late stands none_out has.
        let old = away place k late stands none_out in
        set_else homes j k (some nothing) old.0
        ∙ fits.waits place k y (omega (arith, low, length-set homes j (some nothing))) (omega (arith, later, late)) stands old.1 has;
    right = λ place k y some_slot stands has. fits.right place k y (omega (arith, some_slot, length-set homes j (some nothing))) stands has;
  }

  -- what stands at a place of the longer lists: as before, or the new number with what it brought
  longer : (j place k : ℕ) (x y : S) → slice_get (acs ++ j ∷ []) place ≡ Some k → slice_get (brs ++ x ∷ []) place ≡ Some y
      → (P : Type 0) → (slice_get acs place ≡ Some k → slice_get brs place ≡ Some y → P) → (j ≡ k → x ≡ y → P) → P
  longer j place k x y stands has P old new = ⊎_elim
      (λ (s : slice_get acs place ≡ Some k). ⊎_elim (λ (h : slice_get brs place ≡ Some y). old s h)
      (λ (h : (place ≡ length brs) × (x ≡ y)). absurd (omega (arith, slice_get_within acs place k s, h.0, fits.as_many)))
      (slice_get_push brs x y place has))
      (λ (s : (place ≡ length acs) × (j ≡ k)). ⊎_elim (λ (h : slice_get brs place ≡ Some y). absurd (omega
      (arith, slice_get_within brs place y h, s.0, fits.as_many)))
      (λ (h : (place ≡ length brs) × (x ≡ y)). new s.1 h.1)
      (slice_get_push brs x y place has))
      (slice_get_push acs j k place stands)

  more : (j : ℕ) (x : S) → length (brs ++ x ∷ []) ≡ length (acs ++ j ∷ [])
  more j x = omega (arith, length_push brs x, length_push acs j, fits.as_many)

  -- the slot of j is given back, with what j brought
  pub fits_brought : (j : ℕ) (x : S) → ((k : ℕ) → IsAway (kp' k) (out' k) → (k ≢ j) × IsAway (kp k) (out k)) → (0 < length homes → R j x)
      → ((k : ℕ) → kp' k ≡ Home → (k ≢ j) × (kp k ≡ Home))
      → ((place k : ℕ) → b ≤ place → slice_get acs place ≡ Some k → out' k ≡ 0 → (k ≢ j) × (out k ≡ 0))
      → b ≤ b' → HomesFit nothing R kp' out' b' (acs ++ j ∷ []) (brs ++ x ∷ []) (set homes j (some x))
  fits_brought j x gone fit home away later = record {
    away = λ k low is. let old = gone k is in set_else homes j k (some x) old.0 ∙ fits.away k (omega (arith, low, length-set homes j (some x))) old.1;
    as_many = more j x;
    free = λ k low at. let old = home k at in set_else homes j k (some x) old.0 ∙ fits.free k (omega (arith, low, length-set homes j (some x))) old.1;
    waits = λ place k y low late stands none_out has. longer j place k x y stands has (get_elem? (set homes j (some x)) k ≡ some (some y))
        (λ s h.
        let early : b ≤ place = omega (arith, later, late) in
        let old = away place k early s none_out in
        set_else homes j k (some x) old.0 ∙ fits.waits place k y (omega (arith, low, length-set homes j (some x))) early s old.1 h)
        (λ same is. subst (λ (z : ℕ × S). get_elem? (set homes j (some x)) z.0 ≡ some (some z.1)) (λ i. (same i, is i))
        (set_here homes j (some x) (omega (arith, low, same, length-set homes j (some x)))));
    right = λ place k y some_slot stands has.
        let some_before : 0 < length homes = omega (arith, some_slot, length-set homes j (some x)) in
        longer j place k x y stands has (R k y) (λ s h. fits.right place k y some_before s h)
        (λ same is. subst (λ (z : ℕ × S). R z.0 z.1) (λ i. (same i, is i)) (fit some_before));
  }

  -- the slot of j is taken, and j is accepted with what it is to have
  pub fits_chained : (j : ℕ) (x : S) → ((k : ℕ) → k ≢ j → IsAway (kp' k) (out' k) → IsAway (kp k) (out k)) → (0 < length homes → R j x) → ((k : ℕ)
      → kp' k ≡ Home → (k ≢ j) × (kp k ≡ Home))
      → ((place k : ℕ) → b ≤ place → slice_get acs place ≡ Some k → out' k ≡ 0 → (k ≢ j) × (out k ≡ 0))
      → (out' j ≢ 0) → b ≤ b' → HomesFit nothing R kp' out' b' (acs ++ j ∷ []) (brs ++ x ∷ []) (set homes j none)
  fits_chained j x gone fit home away taken later = record {
    away = λ k low is. dite (ℕ_discrete k j)
        (λ same. subst (λ (z : ℕ). get_elem? (set homes j none) z ≡ some none) (sym same) (set_here homes j none (omega
        (arith, same, low, length-set homes j none))))
        (λ other. set_else homes j k none other ∙ fits.away k (omega (arith, low, length-set homes j none)) (gone k other is));
    as_many = more j x;
    free = λ k low at. let old = home k at in set_else homes j k none old.0 ∙ fits.free k (omega (arith, low, length-set homes j none)) old.1;
    waits = λ place k y low late stands none_out has. longer j place k x y stands has (get_elem? (set homes j none) k ≡ some (some y))
        (λ s h.
        let early : b ≤ place = omega (arith, later, late) in
        let old = away place k early s none_out in
        set_else homes j k none old.0 ∙ fits.waits place k y (omega (arith, low, length-set homes j none)) early s old.1 h)
        (λ same is. absurd (taken (ap out' same ∙ none_out)));
    right = λ place k y some_slot stands has.
        let some_before : 0 < length homes = omega (arith, some_slot, length-set homes j none) in
        longer j place k x y stands has (R k y) (λ s h. fits.right place k y some_before s h)
        (λ same is. subst (λ (z : ℕ × S). R z.0 z.1) (λ i. (same i, is i)) (fit some_before));
  }
