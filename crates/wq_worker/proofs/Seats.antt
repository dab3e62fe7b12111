-- What the two seats of a worker add, put together.
use Rattle.wq_worker.proofs.Common.{◌≡◌, ℕ, ◌+◌, Bool, true, false, cond, ◌==◌, List, [], ◌∷◌, ◌++◌, length, sym, refl, ap, ◌∙◌, arith, append_assoc}
use Rattle.wq_worker.proofs.Common.{length-append, append-nil, Event, owner_seat, seat_of, own, Grows, is_ours, Adds}
use Rattle.std.proofs.Common.{not, ◌||◌}
use Rattle.std.specs.Prelude.{filter}
use Rattle.std.proofs.lemmas.List.{append_cancel_left}
use Rattle.std.proofs.lemmas.List.Elements.{filter-append}

module _ {A : Type 0} where
  left_step : (b c : Bool) (x : A) (ps os qs : List A) → (ps ≡ [] → os ≡ qs) → cond b (x ∷ ps) ps ≡ [] → cond (b || c) (x ∷ os) os ≡ cond c (x ∷ qs) qs
  left_step true c x ps os qs go is = absurd (cc)
  left_step false c x ps os qs go is = ap (λ (ys : List A). cond c (x ∷ ys) ys) (go is)

  pub only_right : (p q : A → Bool) (xs : List A) → filter p xs ≡ [] → filter (λ e. p e || q e) xs ≡ filter q xs
  only_right p q [] is = refl
  only_right p q (x ∷ xs) is = left_step (p x) (q x) x (filter p xs) (filter (λ e. p e || q e) xs) (filter q xs) (only_right p q xs) is

  right_step : (b c : Bool) (x : A) (ps os qs : List A) → (qs ≡ [] → os ≡ ps) → cond c (x ∷ qs) qs ≡ [] → cond (b || c) (x ∷ os) os ≡ cond b (x ∷ ps) ps
  right_step b true x ps os qs go is = absurd (cc)
  right_step true false x ps os qs go is = ap (λ (ys : List A). x ∷ ys) (go is)
  right_step false false x ps os qs go is = go is

  pub only_left : (p q : A → Bool) (xs : List A) → filter q xs ≡ [] → filter (λ e. p e || q e) xs ≡ filter p xs
  only_left p q [] is = refl
  only_left p q (x ∷ xs) is = right_step (p x) (q x) x (filter p xs) (filter (λ e. p e || q e) xs) (filter q xs) (only_left p q xs) is

  rest_step : (b c : Bool) (x : A) (ps os qs : List A) → (qs ≡ [] → os ≡ ps) → cond c (x ∷ qs) qs ≡ []
      → cond (not (b || c)) (x ∷ os) os ≡ cond (not b) (x ∷ ps) ps
  rest_step b true x ps os qs go is = absurd (cc)
  rest_step true false x ps os qs go is = go is
  rest_step false false x ps os qs go is = ap (λ (ys : List A). x ∷ ys) (go is)

  pub rest_left : (p q : A → Bool) (xs : List A) → filter q xs ≡ [] → filter (λ e. not (p e || q e)) xs ≡ filter (λ e. not (p e)) xs
  rest_left p q [] is = refl
  rest_left p q (x ∷ xs) is = rest_step (p x) (q x) x (filter (λ e. not (p e)) xs) (filter (λ e. not (p e || q e)) xs) (filter q xs) (rest_left p q xs) is

same_new : (u a b w : List Event) → w ≡ u ++ a → w ≡ u ++ b → a ≡ b
same_new u a b w p q = append_cancel_left u a b (sym p ∙ q)

-- only the owner made events
pub adds_owner : (s : ℕ) (xs : List Event) (n m : ℕ) (v w : List Event) → Grows owner_seat xs n v w → Grows s [] m v w → Adds s xs 0 v w
adds_owner s xs n m v w a b = let e = same_new v a.new b.new w a.is b.is in record {
  new = a.new;
  is = a.is;
  ours = only_right (λ e. seat_of e == s) (λ e. seat_of e == owner_seat) a.new (ap (own s) e ∙ b.mine) ∙ a.mine;
  theirs = omega arith;
}

-- only the sender made events
pub adds_sender : (s : ℕ) (xs : List Event) (n m : ℕ) (v w : List Event) → Grows s xs n v w → Grows owner_seat [] m v w → Adds s xs n v w
adds_sender s xs n m v w a b = let e = same_new v a.new b.new w a.is b.is in let none : own owner_seat a.new ≡ [] = ap (own owner_seat) e ∙ b.mine in record {
  new = a.new;
  is = a.is;
  ours = only_left (λ e. seat_of e == s) (λ e. seat_of e == owner_seat) a.new none ∙ a.mine;
  theirs = let f = ap (length {A = Event}) (rest_left (λ e. seat_of e == s) (λ e. seat_of e == owner_seat) a.new none) in omega (arith, f, a.theirs);
}

pub adds_on : (s : ℕ) (xs ys : List Event) (n m : ℕ) (u v w : List Event) → Adds s xs n u v → Adds s ys m v w → Adds s (xs ++ ys) (n + m) u w
adds_on s xs ys n m u v w a b = record {
  new = a.new ++ b.new;
  is = b.is ∙ (ap (λ (z : List Event). z ++ b.new) a.is ∙ append_assoc u a.new b.new);
  ours = filter-append (is_ours s) a.new b.new ∙ (ap (λ (z : List Event). z ++ filter (is_ours s) b.new) a.ours ∙ ap (λ (z : List Event). xs ++ z) b.ours);
  theirs = let e = ap (length {A = Event}) (filter-append (λ e. not (is_ours s e)) a.new b.new) in
      omega (arith, a.theirs, b.theirs, e, length-append (filter (λ e. not (is_ours s e)) a.new) (filter (λ e. not (is_ours s e)) b.new));
}

pub adds_none : (s : ℕ) (v : List Event) → Adds s [] 0 v v
adds_none s v = record { new = []; is = sym (append-nil v); ours = refl; theirs = omega arith }
