-- What a clause sees of the pairs that a run asks to be queued next.
use Rattle.std.specs.Prelude.{◌≡◌, ℕ, List, [], ◌∷◌, filter_map, Option, None}
use Rattle.wq_value_worker.specs.declared.value_follow.ValueFollow.TheInside.{Inside}

-- items, each with its value, in the order in which they are to be queued
pub record AskedPairs (V : Type 0) : Type 0 where
  pub pairs : List (ℕ × V)

-- those of four places that are not empty
abbrev pub pairs_at : {P : Type 0} → Option P → Option P → Option P → Option P → List P
pairs_at a b c d = filter_map (λ x. x) (a ∷ b ∷ c ∷ d ∷ [])

abbrev pub asked_view : {V : Type 0} → Inside V → AskedPairs V
asked_view f = record { pairs = pairs_at f.first f.second f.third f.fourth }

-- no place is empty before one that is not
pub record ArePacked {P : Type 0} (a b c d : Option P) : Type 0 where
  pub second : a ≡ None → b ≡ None
  pub third : b ≡ None → c ≡ None
  pub fourth : c ≡ None → d ≡ None

abbrev pub AreAsked : {V : Type 0} → Inside V → Type 0
AreAsked f = ArePacked f.first f.second f.third f.fourth
