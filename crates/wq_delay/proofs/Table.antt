-- Where each item stands on a table.
use Rattle.wq_delay.proofs.Common.{◌≡◌, ℕ, Bool, true, false, cond, not, ◌||◌, List, [], ◌∷◌, is_some, nat_lt, ◌==◌, Some, None, Option, refl, ap, ◌∙◌, arith}
use Rattle.wq_delay.proofs.Common.{nat_tests, Entry, without, on_table, placed, first_false, second_false, DuePlace, place_at, place_of}

-- where each item stands
pub place_some : (k : ℕ) (es : List Entry) → is_some (place_of k es) ≡ on_table k es
place_some k [] = refl
place_some k (f ∷ fs) = by (k == f.item) (place_some k fs)
  where
    by : (b : Bool) → is_some (place_of k fs) ≡ on_table k fs → is_some (cond b (Some (place_at f.due f.arming)) (place_of k fs)) ≡ (b || on_table k fs)
    by true is = refl
    by false is = is

placed_at : {X : Type 0} (j a b : ℕ) (t p q : Bool) (x y z : X) → (j == a) ≡ p → (j == b) ≡ q → (a == b) ≡ false
    → cond q y (cond p x z) ≡ cond p x (cond q y z)
placed_at j a b t true true x y z u v w = absurd (grind (arith, nat_tests))
placed_at j a b t true false x y z u v w = refl
placed_at j a b t false q x y z u v w = refl

-- an entry that was put before or behind the first
pub put_by : (b : Bool) (j : ℕ) (e f : Entry) (fs gs : List Entry) → (e.item == f.item) ≡ false
    → place_of j gs ≡ cond (j == e.item) (Some (place_at e.due e.arming)) (place_of j fs)
    → place_of j (cond b (e ∷ f ∷ fs) (f ∷ gs)) ≡ cond (j == e.item) (Some (place_at e.due e.arming)) (place_of j (f ∷ fs))
put_by true j e f fs gs apart is = refl
put_by false j e f fs gs apart is =
    ap (λ (z : Option DuePlace). cond (j == f.item) (Some (place_at f.due f.arming)) z) is
    ∙ placed_at j e.item f.item true (j == e.item) (j == f.item) (Some (place_at e.due e.arming)) (Some (place_at f.due f.arming))
    (place_of j fs) refl refl apart

pub place_of-placed : (j : ℕ) (e : Entry) (es : List Entry) → on_table e.item es ≡ false
    → place_of j (placed e es) ≡ cond (j == e.item) (Some (place_at e.due e.arming)) (place_of j es)
place_of-placed j e [] off = refl
place_of-placed j e (f ∷ fs) off =
    put_by (nat_lt e.due f.due) j e f fs (placed e fs) (first_false _ _ off) (place_of-placed j e fs (second_false _ _ off))

gone_at : {X : Type 0} (j k i : ℕ) (p q r : Bool) (x y n : X) → (j == k) ≡ p → (k == i) ≡ q → (j == i) ≡ r
    → cond (not q) (cond r x (cond p n y)) (cond p n y) ≡ cond p n (cond r x y)
gone_at j k i true true r x y n a b c = refl
gone_at j k i true false true x y n a b c = absurd (grind (arith, nat_tests))
gone_at j k i true false false x y n a b c = refl
gone_at j k i false true true x y n a b c = absurd (grind (arith, nat_tests))
gone_at j k i false true false x y n a b c = refl
gone_at j k i false false r x y n a b c = refl

place_by : (j : ℕ) (b : Bool) (f : Entry) (fs : List Entry) (r : Option DuePlace) → place_of j fs ≡ r
    → place_of j (cond b (f ∷ fs) fs) ≡ cond b (cond (j == f.item) (Some (place_at f.due f.arming)) r) r
place_by j true f fs r is = ap (λ (z : Option DuePlace). cond (j == f.item) (Some (place_at f.due f.arming)) z) is
place_by j false f fs r is = is

pub place_of-without : (j k : ℕ) (es : List Entry) → place_of j (without k es) ≡ cond (j == k) None (place_of j es)
place_of-without j k [] = none (j == k)
  where
    none : (b : Bool) → place_of j [] ≡ cond b None (place_of j [])
    none true = refl
    none false = refl
place_of-without j k (f ∷ fs) =
    place_by j (not (k == f.item)) f (without k fs) _ (place_of-without j k fs)
    ∙ gone_at j k f.item (j == k) (k == f.item) (j == f.item) (Some (place_at f.due f.arming)) (place_of j fs) None refl refl refl
