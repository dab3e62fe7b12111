-- What the begun numbers were handed, call after call.
use Rattle.wq_calls.proofs.Common.{◌≡◌, ℕ, zero, suc, ◌≤◌, List, [], ◌∷◌, ◌++◌, length, take, slice_get, Option, Some, sym, ap, ◌∙◌, arith}
use Rattle.wq_calls.proofs.Common.{length-append, append-nil, take-length, IsPrefix, Layout, Event, Begin, accepted, begun, IsLegal, owner_seat, Grows}
use Rattle.wq_calls.proofs.Common.{in_order, prefix_length}
use Rattle.std.proofs.lemmas.List.{take-append-le}
use Rattle.wq_calls.proofs.Owned.{begun_on}

module _ {V : Type 0} where
  -- one more of what was there
  take_next : (n : ℕ) (xs : List V) (y : V) → slice_get xs n ≡ Some y → take (suc n) xs ≡ take n xs ++ y ∷ []
  take_next n [] y at = absurd cc
  take_next zero (x ∷ xs) y at = ap (λ (z : V). z ∷ []) (cc at)
  take_next (suc n) (x ∷ xs) y at = ap (λ (z : List V). x ∷ z) (take_next n xs y at)

  take_front : (n : ℕ) (xs ys : List V) → n ≤ length xs → IsPrefix xs ys → take n ys ≡ take n xs
  take_front n xs ys less front = ap (take n) (sym front.1) ∙ take-append-le n xs front.0 less

module _ {V : Type 0} (layout : Layout) (v w : List Event) (bs cs : List (Option V)) (legal : IsLegal layout v) (many : length bs ≡ length (accepted v))
    (more : IsPrefix bs cs) where
  few : length (begun v) ≤ length bs
  few = let some = prefix_length (begun v) (accepted v) (in_order layout v legal).begun_first in omega (arith, some, many)

  -- where nothing more began
  pub handed_same : begun w ≡ begun v → take (length (begun w)) cs ≡ take (length (begun v)) bs
  handed_same same = ap (λ (ks : List ℕ). take (length ks) cs) same ∙ take_front (length (begun v)) bs cs few more

  -- where the owner made such events
  pub handed_stays : (xs : List Event) (n : ℕ) → begun xs ≡ [] → Grows owner_seat xs n v w → take (length (begun w)) cs ≡ take (length (begun v)) bs
  handed_stays xs n none g = handed_same (begun_on xs n v w g ∙ (ap (λ (ks : List ℕ). begun v ++ ks) none ∙ append-nil (begun v)))

  -- where one began, and was handed y
  pub handed_next : (k n : ℕ) (y : Option V) → Grows owner_seat (Begin k ∷ []) n v w → slice_get cs (length (begun v)) ≡ Some y
      → take (length (begun w)) cs ≡ take (length (begun v)) bs ++ y ∷ []
  handed_next k n y g at =
      let count : length (begun w) ≡ suc (length (begun v)) =
      omega (arith, ap length (begun_on (Begin k ∷ []) n v w g), length-append (begun v) (k ∷ [])) in
      ap (λ (m : ℕ). take m cs) count ∙ (take_next (length (begun v)) cs y at ∙
      ap (λ (z : List (Option V)). z ++ y ∷ []) (take_front (length (begun v)) bs cs few more))

-- where all has begun that was accepted
pub handed_all : {V : Type 0} (h : List Event) (bs : List (Option V)) → begun h ≡ accepted h → length bs ≡ length (accepted h) → take (length (begun h)) bs ≡ bs
handed_all h bs all many = ap (λ (n : ℕ). take n bs) (ap length all ∙ sym many) ∙ take-length bs
