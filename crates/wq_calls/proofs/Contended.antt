-- A queueing that was given up: what the lost tries were paid with came after its hold.
use Rattle.wq_calls.proofs.Common.{◌≡◌, ℕ, ◌≤◌, Bool, true, false, cond, not, ◌==◌, List, [], ◌∷◌, ◌++◌, length, refl, ap, ◌∙◌, arith, append_assoc}
use Rattle.wq_calls.proofs.Common.{length-append, subst, Event, Hold, Back, seat_of, own, Grows, own-append, Known, Sees, IsContended}
use Rattle.wq_words.specs.declared.event.Why.TheVariants as why
use Rattle.wq_words.specs.Seen.{others}

-- where these are the events that a seat made, none of them stands before the first, and the others stand behind it
pub record IsSplit (s : ℕ) (e : Event) (more es : List Event) : Type 0 where
  pub front : List Event
  pub back : List Event
  pub is : es ≡ front ++ e ∷ back
  pub none_before : own s front ≡ []
  pub behind : own s back ≡ more

pub split_first : (s : ℕ) (e : Event) (more es : List Event) → own s es ≡ e ∷ more → IsSplit s e more es
split_first s e more [] is = absurd (cc)
split_first s e more (x ∷ xs) is = go (seat_of x == s) refl (split_first s e more xs) is
  where
    go : (b : Bool) → (seat_of x == s) ≡ b → (own s xs ≡ e ∷ more → IsSplit s e more xs) → cond b (x ∷ own s xs) (own s xs) ≡ e ∷ more
        → IsSplit s e more (x ∷ xs)
    go true mine rest one = let same : x ≡ e = cc in let others_are : own s xs ≡ more = cc in record {
      front = [];
      back = xs;
      is = ap (λ (y : Event). y ∷ xs) same;
      none_before = refl;
      behind = others_are;
    }
    go false other rest one = let r = rest one in record {
      front = x ∷ r.front;
      back = r.back;
      is = ap (λ (ys : List Event). x ∷ ys) r.is;
      none_before = ap (λ (b : Bool). cond b (x ∷ own s r.front) (own s r.front)) other ∙ r.none_before;
      behind = r.behind;
    }

others-length : (s : ℕ) (es : List Event) → length (others s es) ≤ length es
others-length s [] = omega arith
others-length s (x ∷ xs) = go (seat_of x == s) (others-length s xs)
  where
    go : (b : Bool) → length (others s xs) ≤ length xs → length (cond (not b) (x ∷ others s xs) (others s xs)) ≤ length (x ∷ xs)
    go true less = omega (arith, less)
    go false less = omega (arith, less)

in_a_row : (v f b p g z : List Event) (x y : Event)
    → ((v ++ (f ++ x ∷ b)) ++ p) ++ (g ++ y ∷ z) ≡ (v ++ f) ++ x ∷ ((b ++ (p ++ g)) ++ y ∷ z)
in_a_row v f b p g z x y = simp append_assoc refl

pub contended_since : (s k n : ℕ) (v a b w : List Event) → Grows s (Hold s k ∷ []) 0 v a → Grows s [] n a b
    → Grows s (Back s k why.Contended ∷ []) 0 b w → IsContended s k n w
contended_since s k n v a b w held lost gave =
    let hold = split_first s (Hold s k) [] held.new held.mine in let back = split_first s (Back s k why.Contended) [] gave.new gave.mine in
    let between = hold.back ++ (lost.new ++ back.front) in
    let upto : b ≡ (v ++ (hold.front ++ Hold s k ∷ hold.back)) ++ lost.new =
    lost.is ∙ ap (λ (x : List Event). x ++ lost.new) (held.is ∙ ap (λ (x : List Event). v ++ x) hold.is) in record {
      before = v ++ hold.front;
      between = between;
      after = back.back;
      is = gave.is ∙ ((λ i. upto i ++ back.is i) ∙ in_a_row v hold.front hold.back lost.new back.front back.back (Hold s k) (Back s k why.Contended));
      none_between = own-append s hold.back (lost.new ++ back.front) ∙
          (λ i. hold.behind i ++ (own-append s lost.new back.front ∙ (λ j. lost.mine j ++ back.none_before j)) i);
      last = back.behind;
      paid = omega (arith, lost.theirs, others-length s lost.new, length-append hold.back (lost.new ++ back.front), length-append lost.new back.front);
    }

-- held, tried in vain, and given back
pub contended_calls : (k n : ℕ) (s t u w : Known) → Sees (Hold s.number k ∷ []) 0 s t → Sees [] n t u → Sees (Back u.number k why.Contended ∷ []) 0 u w
    → IsContended s.number k n w.seen
contended_calls k n s t u w held lost gave =
    let one = held.same.number_is in let two = lost.same.number_is ∙ one in
    contended_since s.number k n s.seen t.seen u.seen w.seen held.grows
    (subst (λ (c : ℕ). Grows c [] n t.seen u.seen) one lost.grows)
    (subst (λ (c : ℕ). Grows c (Back c k why.Contended ∷ []) 0 u.seen w.seen) two gave.grows)
