-- What is given back to a work, and what it has logged, where items bring values.
use Rattle.std.specs.Prelude.{◌≡◌, ℕ, List, [], ◌∷◌, ◌++◌, Option, Some, None, map}

module _ {V W : Type 0} (takes : W → ℕ → V → W → Type 0) where
  -- these pairs were given back to the work, one after another
  pub data GivenBack : List (ℕ × V) → W → W → Type 0 where
    none : (w : W) → GivenBack [] w w
    one : (ps : List (ℕ × V)) (k : ℕ) (v : V) (a b c : W) → GivenBack ps a b → takes b k v c → GivenBack (ps ++ (k, v) ∷ []) a c

  -- the same, whatever was given back
  abbrev pub GivesBack : W → W → Type 0
  GivesBack a b = (ps : List (ℕ × V)) × GivenBack ps a b

abbrev pub number_of_pair : {V : Type 0} → ℕ × V → ℕ
number_of_pair p = p.0

abbrev pub value_of_pair : {V : Type 0} → ℕ × V → V
value_of_pair p = p.1

abbrev pub numbers_in : {V : Type 0} → List (ℕ × V) → List ℕ
numbers_in ps = map number_of_pair ps

abbrev pub values_in : {V : Type 0} → List (ℕ × V) → List (Option V)
values_in ps = map (λ p. Some p.1) ps

-- what a run may answer by its numbers, and what it and the givings back of its step may leave of the work
pub record MayLeave {V W : Type 0} (may : W → ℕ → V → List (ℕ × V) → W → Type 0) (takes : W → ℕ → V → W → Type 0)
    (a : W) (k : ℕ) (f : List ℕ) (b : W) : Type 0 where
  pub value : V
  pub pairs : List (ℕ × V)
  pub ran : W
  pub numbers : numbers_in pairs ≡ f
  pub runs : may a k value pairs ran
  pub gives : GivesBack takes ran b

-- the numbers that a value was handed to, each with it, in order
abbrev pub pairs_of : {V : Type 0} → List ℕ → List (Option V) → List (ℕ × V)
pairs_of [] ys = []
pairs_of (k ∷ ks) [] = []
pairs_of (k ∷ ks) (Some v ∷ ys) = (k, v) ∷ pairs_of ks ys
pairs_of (k ∷ ks) (None ∷ ys) = pairs_of ks ys
