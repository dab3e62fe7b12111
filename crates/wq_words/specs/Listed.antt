-- The numbers on the pending list.
use Rattle.std.specs.Prelude.{ℕ, List, [], ◌∷◌, fold}
use Rattle.wq_words.specs.declared.event.Event.{Event}
use Rattle.wq_words.specs.declared.event.Event.TheVariants.{Push, Take, Close, Drain}

-- the numbers that stand on the list after these did and the event came, newest first
abbrev pub listed_after : List ℕ → Event → List ℕ
listed_after ks (Push s k) = k ∷ ks
listed_after ks Take = []
listed_after ks Close = []
listed_after ks Drain = []
listed_after ks _ = ks

-- the numbers that were pushed and not taken, newest first, an event at a time
abbrev pub listed : List Event → List ℕ
listed h = fold listed_after [] h
