-- What waits for the owner, as the links have it.
use Rattle.std.specs.Prelude.{◌≡◌, ℕ, ◌+◌, List, [], ◌∷◌, length, get_or}
use Rattle.wq_core.specs.Words.{link_place}
use Rattle.wq_calls.specs.declared.row.Row.{Row}

-- the link of the number k
abbrev pub link_in : List ℕ → ℕ → ℕ
link_in words k = get_or words (link_place k) 0

-- from the number k the links lead on to these, one after another, of which this is the last
abbrev pub LinksOn : List ℕ → ℕ → ℕ → List ℕ → Type 0
LinksOn words k last [] = last ≡ k
LinksOn words k last (j ∷ js) = (link_in words k ≡ j + 1) × LinksOn words j last js

-- from the front to the last the links spell these numbers
abbrev pub LinksFrom : List ℕ → ℕ → ℕ → List ℕ → Type 0
LinksFrom words front last [] = Unit {0}
LinksFrom words front last (k ∷ ks) = (front ≡ k) × LinksOn words k last ks

-- the row has these numbers, oldest first
pub record IsRowOf (words : List ℕ) (row : Row) (ks : List ℕ) : Type 0 where
  pub count_is : row.count ≡ length ks
  pub spells : LinksFrom words row.front row.last ks
