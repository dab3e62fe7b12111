-- What is given back, one pair after another, and the pairs of numbers and values.
use Rattle.wq_value_worker.proofs.Common.{◌≡◌, inl, inr, ℕ, ◌<◌, ◌≤◌, cond, Bool, List, [], ◌∷◌, ◌++◌, length, Option, Some, None, refl, sym, ap, ◌∙◌}
use Rattle.wq_value_worker.proofs.Common.{subst, append_assoc, arith, append-nil, cases_lt, Layout, items_among, GivesBack, MayLeave, numbers_in, pairs_of}
use Rattle.std.proofs.Common.{◌⊎◌, suc, lt-ltb, le-ltb}
use Rattle.std.proofs.lemmas.List.Sums.{sum_by-cons}
use Rattle.std.specs.Prelude.{map, sum_by}
use Rattle.wq_words.specs.Valued.{AreBrought, Carries, values_among}
use Rattle.wq_value_worker.specs.Returned.{GivenBack, none, one, value_of_pair}

module _ {V W : Type 0} (takes : W → ℕ → V → W → Type 0) where
  pub given_on : (ps qs : List (ℕ × V)) (a b c : W) → GivenBack takes ps a b → GivenBack takes qs b c → GivenBack takes (ps ++ qs) a c
  given_on ps qs a b c g (none w) = subst (λ (z : List (ℕ × V)). GivenBack takes z a w) (sym (append-nil ps)) g
  given_on ps qs a b c g (one rs k v w m u h t) =
      subst (λ (z : List (ℕ × V)). GivenBack takes z a u) (append_assoc ps rs ((k, v) ∷ []))
      (one (ps ++ rs) k v a m u (given_on ps rs a w m g h) t)

  pub gives_on : (a b c : W) → GivesBack takes a b → GivesBack takes b c → GivesBack takes a c
  gives_on a b c g h = (g.0 ++ h.0, given_on g.0 h.0 a b c g.1 h.1)

  pub gives_none : (w : W) → GivesBack takes w w
  gives_none w = ([], none w)

  -- a run stays one where more is given back behind it
  pub run_on : (may : W → ℕ → V → List (ℕ × V) → W → Type 0) (w u v : W) (k : ℕ) (f : List ℕ)
      → MayLeave may takes w k f u → GivesBack takes u v → MayLeave may takes w k f v
  run_on may w u v k f m g = record {
    value = m.value;
    pairs = m.pairs;
    ran = m.ran;
    numbers = m.numbers;
    runs = m.runs;
    gives = gives_on m.ran u v m.gives g;
  }

module _ {V : Type 0} where
  pub pairs_append : (ks js : List ℕ) (ys zs : List (Option V)) → length ys ≡ length ks → pairs_of (ks ++ js) (ys ++ zs) ≡ pairs_of ks ys ++ pairs_of js zs
  pairs_append [] js [] zs many = refl
  pairs_append [] js (y ∷ ys) zs many = absurd (omega arith)
  pairs_append (k ∷ ks) js [] zs many = absurd (omega arith)
  pairs_append (k ∷ ks) js (Some v ∷ ys) zs many = ap (λ (ps : List (ℕ × V)). (k, v) ∷ ps) (pairs_append ks js ys zs (omega arith))
  pairs_append (k ∷ ks) js (None ∷ ys) zs many = pairs_append ks js ys zs (omega arith)

  pub pairs_push : (ks : List ℕ) (ys : List (Option V)) (k : ℕ) (v : V) → length ys ≡ length ks
      → pairs_of (ks ++ k ∷ []) (ys ++ Some v ∷ []) ≡ pairs_of ks ys ++ (k, v) ∷ []
  pairs_push ks ys k v many = pairs_append ks (k ∷ []) ys (Some v ∷ []) many

  pub pairs_pass : (ks : List ℕ) (ys : List (Option V)) (k : ℕ) → length ys ≡ length ks → pairs_of (ks ++ k ∷ []) (ys ++ None ∷ []) ≡ pairs_of ks ys
  pairs_pass ks ys k many = pairs_append ks (k ∷ []) ys (None ∷ []) many ∙ append-nil (pairs_of ks ys)

  brought_behind : (n k : ℕ) (ks : List ℕ) (y : Option V) (ys : List (Option V)) → AreBrought n (k ∷ ks) (y ∷ ys) → AreBrought n ks ys
  brought_behind n k ks y ys are = record { as_many = omega (arith, are.as_many); carries = λ place. are.carries (suc place) }

  pub with_item : (n k : ℕ) (v : V) → Carries n k (Some v) → k < n
  with_item n k v c = go (cases_lt k n)
    where
      go : (k < n) ⊎ (n ≤ k) → k < n
      go (inl low) = low
      go (inr high) = let none : Some v ≡ None = c.1 high in absurd (cc)

  pub with_other : (n k : ℕ) → Carries {V = V} n k None → n ≤ k
  with_other n k c = go (cases_lt k n)
    where
      go : (k < n) ⊎ (n ≤ k) → n ≤ k
      go (inl low) = let some : None ≡ Some (c.0 low).0 = (c.0 low).1 in absurd (cc)
      go (inr high) = high

  pub numbers_of_pairs : (layout : Layout) (ks : List ℕ) (ys : List (Option V)) → AreBrought layout.items ks ys
      → numbers_in (pairs_of ks ys) ≡ items_among layout ks
  numbers_of_pairs layout [] ys are = refl
  numbers_of_pairs layout (k ∷ ks) [] are = absurd (omega (arith, are.as_many))
  numbers_of_pairs layout (k ∷ ks) (Some v ∷ ys) are =
      let low : k < layout.items = with_item layout.items k v (are.carries 0 k (Some v) refl refl) in
      ap (λ (z : List ℕ). k ∷ z) (numbers_of_pairs layout ks ys (brought_behind layout.items k ks (Some v) ys are)) ∙
      ap (λ (b : Bool). cond b (k ∷ items_among layout ks) (items_among layout ks)) (sym (lt-ltb k layout.items low))
  numbers_of_pairs layout (k ∷ ks) (None ∷ ys) are =
      let high : layout.items ≤ k = with_other layout.items k (are.carries 0 k None refl refl) in
      numbers_of_pairs layout ks ys (brought_behind layout.items k ks None ys are) ∙
      ap (λ (b : Bool). cond b (k ∷ items_among layout ks) (items_among layout ks)) (sym (le-ltb k layout.items high))

pub pairs_values : {V : Type 0} (ks : List ℕ) (ys : List (Option V)) → length ys ≡ length ks → map value_of_pair (pairs_of ks ys) ≡ values_among ys
pairs_values [] [] many = refl
pairs_values [] (y ∷ ys) many = absurd (omega arith)
pairs_values (k ∷ ks) [] many = absurd (omega arith)
pairs_values (k ∷ ks) (Some v ∷ ys) many = ap (λ vs. v ∷ vs) (pairs_values ks ys (omega (arith, many)))
pairs_values (k ∷ ks) (None ∷ ys) many = pairs_values ks ys (omega (arith, many))

pub pairs_sum : {V : Type 0} (f : V → ℕ) (ks : List ℕ) (ys : List (Option V)) → length ys ≡ length ks
    → sum_by (λ p. f p.1) (pairs_of ks ys) ≡ sum_by f (values_among ys)
pairs_sum f [] [] many = refl
pairs_sum f [] (y ∷ ys) many = absurd (omega arith)
pairs_sum f (k ∷ ks) [] many = absurd (omega arith)
pairs_sum f (k ∷ ks) (Some v ∷ ys) many =
    omega (arith, sum_by-cons (λ p. f p.1) (k, v) (pairs_of ks ys), sum_by-cons f v (values_among ys), pairs_sum f ks ys (omega (arith, many)))
pairs_sum f (k ∷ ks) (None ∷ ys) many = pairs_sum f ks ys (omega (arith, many))
