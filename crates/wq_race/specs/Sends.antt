-- What a sender adds that queues numbers.
use Rattle.std.specs.Prelude.{◌≡◌, ℕ, List, [], ◌∷◌, ◌++◌}
use Rattle.wq_words.specs.declared.event.Event.{Event}
use Rattle.wq_words.specs.declared.event.Event.TheVariants.{Hold, Busy, Push, Back}
use Rattle.wq_words.specs.declared.event.Why.{Why}
use Rattle.wq_words.specs.declared.event.Why.TheVariants.{Closed, Draining}

-- a queueing is refused for this: the queue was seen closed, or draining
abbrev pub RefusesFor : Why → Type 0
RefusesFor Closed = Unit {0}
RefusesFor Draining = Unit {0}
RefusesFor _ = ⊥

-- the sender s queued k: it was pushed, found pending, or refused
pub data SendsOne (s k : ℕ) (es : List Event) : Type 0 where
  pushed : es ≡ Hold s k ∷ Push s k ∷ [] → SendsOne s k es
  busy : es ≡ Busy s k ∷ [] → SendsOne s k es
  refused : (cause : Why) → RefusesFor cause → es ≡ Hold s k ∷ Back s k cause ∷ [] → SendsOne s k es

-- it queued a list, one after another
abbrev pub SendsAll : ℕ → List ℕ → List Event → Type 0
SendsAll s [] es = es ≡ []
SendsAll s (k ∷ ks) es = (fs gs : List Event) × (es ≡ fs ++ gs) × SendsOne s k fs × SendsAll s ks gs
