-- Where an item stands among entries, which a list of places by item says too.
use Rattle.std.specs.Prelude.{◌≡◌, ℕ, ◌==◌, if◌then◌else◌, List, [], ◌∷◌, Option, None, Some}
use Rattle.wq_words.specs.DelayTable.{Entry, IsOrdered}
use Rattle.wq_delay.specs.declared.timetable.DuePlace.{DuePlace}
use Rattle.wq_delay.specs.Rows.{place_at, place_in}

-- the tick and the arming of the item k
abbrev pub place_of : ℕ → List Entry → Option DuePlace
place_of k [] = None
place_of k (e ∷ es) = if k == e.item then Some (place_at e.due e.arming) else place_of k es

-- they are in order, and each item's place is known
pub record AreRows (places : List (Option DuePlace)) (es : List Entry) : Type 0 where
  pub ordered : IsOrdered es
  pub known : (k : ℕ) → place_in places k ≡ place_of k es
