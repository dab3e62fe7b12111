-- What the queueings of the numbers that a run answered add.
use Rattle.std.specs.Prelude.{◌≡◌, ℕ, ◌<◌, ◌≤◌, Bool, true, false, List, [], ◌∷◌, ◌++◌}
use Rattle.wq_words.specs.declared.event.Event.{Event}
use Rattle.wq_words.specs.declared.event.Event.TheVariants.{Hold, Busy, Push, Back, Chain, ChainBusy}
use Rattle.wq_words.specs.declared.event.Why.TheVariants as why

-- What the queueing of k by an execution adds, where n are items: nothing where k is none of them. While the queue is open it
-- is of the worker's sender s, and once it is shut the owner chains. It is refused in neither case, since the worker alone
-- closes and drains its queue.
pub data Queues (n s : ℕ) (is_shut : Bool) (k : ℕ) (es : List Event) : Type 0 where
  passed : n ≤ k → es ≡ [] → Queues n s is_shut k es
  pushed : k < n → is_shut ≡ false → es ≡ Hold s k ∷ Push s k ∷ [] → Queues n s is_shut k es
  busy : k < n → is_shut ≡ false → es ≡ Busy s k ∷ [] → Queues n s is_shut k es
  chained : k < n → is_shut ≡ true → es ≡ Chain k ∷ [] → Queues n s is_shut k es
  chain_busy : k < n → is_shut ≡ true → es ≡ ChainBusy k ∷ [] → Queues n s is_shut k es

-- what the queueings of a list add, one after another
abbrev pub Follows : ℕ → ℕ → Bool → List ℕ → List Event → Type 0
Follows n s is_shut [] es = es ≡ []
Follows n s is_shut (k ∷ ks) es = (fs gs : List Event) × (es ≡ fs ++ gs) × Queues n s is_shut k fs × Follows n s is_shut ks gs

-- what a queueing that was contended adds
abbrev pub contended_of : ℕ → ℕ → List Event
contended_of s k = Hold s k ∷ Back s k why.Contended ∷ []
