-- An owner and a sender of one queue that have seen the same.
use Rattle.std.specs.Prelude.{◌≡◌, ◌⊎◌, ℕ, ◌<◌, Bool, true, false, cond, None, List, [], ◌∷◌, ◌++◌}
use Rattle.wq_words.specs.declared.event.Event.{Event}
use Rattle.wq_words.specs.declared.event.Event.TheVariants.{Begin}
use Rattle.wq_words.specs.History.{shut}
use Rattle.wq_words.specs.Legal.{IsLegal}
use Rattle.wq_words.specs.declared.answer.Answer.{Answer}
use Rattle.wq_words.specs.declared.answer.Answer.TheVariants as answer
use Rattle.wq_live.specs.Pairs.{KnownPair}
use Rattle.wq_live.specs.Batch.{next_of}
use Rattle.wq_worker.specs.Seats.{Adds, taking, NothingWaits}
use Rattle.wq_worker.specs.Follow.{Queues, Follows, contended_of}

-- The same pair goes on, and what it has seen is legal. Its two seats added xs, in this order, and at least n events came of
-- other seats.
pub record Both (xs : List Event) (n : ℕ) (old new : KnownPair) : Type 0 where
  pub queue_is : new.queue ≡ old.queue
  pub layout_is : new.layout ≡ old.layout
  pub number_is : new.number ≡ old.number
  pub adds : Adds old.number xs n old.seen new.seen
  pub legal : IsLegal new.layout new.seen

-- no step was made, or one that keeps this
abbrev pub StaysOr : {S : Type 0} → (S → S → Type 0) → S → S → Type 0
StaysOr keeps old new = (new ≡ old) ⊎ keeps old new

abbrev pub settled : Answer → Bool
settled (answer.Queued is_first wakes) = true
settled answer.Pending = true
settled answer.Closed = true
settled answer.Contended = false
settled answer.Draining = true

-- what a queueing adds that was settled, or contended
abbrev pub Attempts : ℕ → ℕ → Bool → ℕ → Bool → List Event → Type 0
Attempts n s is_shut k true es = Queues n s is_shut k es
Attempts n s is_shut k false es = (k < n) × (is_shut ≡ false) × (es ≡ contended_of s k)

-- nothing waits
abbrev pub BothFindNothing : KnownPair → KnownPair → Type 0
BothFindNothing old new = NothingWaits new.seen × Both (taking old.seen) 0 old new × (next_of new.seen ≡ None)

-- the number k has begun
abbrev pub BothBegin : ℕ → KnownPair → KnownPair → Type 0
BothBegin k old new = Both (taking old.seen ++ Begin k ∷ []) 0 old new

-- the number k was queued, or its queueing was contended
abbrev pub BothQueue : ℕ → ℕ → Bool → KnownPair → KnownPair → Type 0
BothQueue k tries is_settled old new =
    (es : List Event) × Attempts old.layout.items old.number (shut old.seen) k is_settled es × Both es (cond is_settled 0 tries) old new

-- The numbers ks are to be queued, and js are left: none, or the queueing of the first of them was contended, with at least
-- tries events of others.
pub data QueuesRest (tries : ℕ) (ks js : List ℕ) (old new : KnownPair) : Type 0 where
  finished : (es : List Event) → js ≡ [] → Follows old.layout.items old.number (shut old.seen) ks es → Both es 0 old new → QueuesRest tries ks js old new
  contended : (qs : List ℕ) (k : ℕ) (more : List ℕ) (es : List Event) → ks ≡ qs ++ js → js ≡ k ∷ more → k < old.layout.items → shut old.seen ≡ false
      → Follows old.layout.items old.number (shut old.seen) qs es → Both (es ++ contended_of old.number k) tries old new → QueuesRest tries ks js old new
