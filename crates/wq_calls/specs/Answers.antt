-- What the answers of a queue mean: the caller's own events, in order.
use Rattle.std.specs.Prelude.{◌≡◌, ℕ, ◌≤◌, true, false, Bool, List, [], ◌∷◌, ◌++◌, length, take}
use mathlib.Core.List.{IsPrefix}
use Rattle.wq_words.specs.declared.layout.Layout.{Layout}
use Rattle.wq_words.specs.declared.event.Event.{Event}
use Rattle.wq_words.specs.declared.event.Event.TheVariants.{Hold, Busy, Push, Back, Chain, ChainBusy}
use Rattle.wq_words.specs.declared.event.Why.TheVariants as why
use Rattle.wq_words.specs.History.{accepted, begun, ended, first, IsDraining}
use Rattle.wq_words.specs.Legal.{IsLegal}
use Rattle.wq_words.specs.Rest.{wakes}
use Rattle.wq_words.specs.Seen.{own}
use Rattle.wq_words.specs.declared.answer.Answer.{Answer}
use Rattle.wq_words.specs.declared.answer.Answer.TheVariants as answer
use Rattle.wq_words.specs.declared.answer.Posted.{Posted}
use Rattle.wq_words.specs.declared.answer.Posted.TheVariants as posted
use Rattle.wq_calls.specs.Known.{Known, Sees}

-- the last event of sender s in h is the push of k, and whether it was the first on the list, and whether it woke a resting queue,
-- is as said
pub record IsPushed (s k : ℕ) (is_first is_waking : Bool) (h : List Event) : Type 0 where
  pub before : List Event
  pub after : List Event
  pub is : h ≡ before ++ Push s k ∷ after
  pub last : own s after ≡ []
  pub first_is : is_first ≡ first before
  pub wakes_is : is_waking ≡ wakes before

-- The queue drained by what was seen before a call, or since: some beginning of what is seen after it, not shorter than what was
-- seen before it, is draining. So the drain may be older than the call, where its seat had not seen all that had happened.
abbrev pub HasMetDrain : List Event → List Event → Type 0
HasMetDrain before after = (moment : ℕ) × (length before ≤ moment) × IsDraining (take moment after)

-- A queueing of k that a drain turned back: the hold, a look that meets the queue draining, the give-back. So the queue drained
-- at some moment of the call.
pub record IsTurnedBack (k : ℕ) (old new : Known) : Type 0 where
  pub held : Known
  pub refused : Known
  pub holds : Sees (Hold old.number k ∷ []) 0 old held
  pub looks : Sees [] 0 held refused
  pub met : HasMetDrain held.seen refused.seen
  pub gives : Sees (Back old.number k why.Draining ∷ []) 0 refused new
  pub within : HasMetDrain old.seen new.seen

-- the test-and-set of the number k's bit: true where it was clear
abbrev pub TestsAndSets : ℕ → Bool → Known → Known → Type 0
TestsAndSets k true old new = Sees (Hold old.number k ∷ []) 0 old new
TestsAndSets k false old new = Sees (Busy old.number k ∷ []) 0 old new

-- a queueing of the number k
abbrev pub Answers : ℕ → ℕ → Answer → Known → Known → Type 0
Answers k tries (answer.Queued is_first is_waking) old new =
    Sees (Hold old.number k ∷ Push old.number k ∷ []) 0 old new × IsPushed old.number k is_first is_waking new.seen
Answers k tries answer.Pending old new = Sees (Busy old.number k ∷ []) 0 old new
Answers k tries answer.Closed old new = Sees (Hold old.number k ∷ Back old.number k why.Closed ∷ []) 0 old new
Answers k tries answer.Draining old new =
    Sees (Hold old.number k ∷ Back old.number k why.Draining ∷ []) 0 old new × IsTurnedBack k old new
Answers k tries answer.Contended old new = Sees (Hold old.number k ∷ Back old.number k why.Contended ∷ []) tries old new

-- The last events of sender s in h are its hold of k and, after lost tries, the give-back. Between the two stand at least n
-- events, all of other seats.
pub record IsContended (s k n : ℕ) (h : List Event) : Type 0 where
  pub before : List Event
  pub between : List Event
  pub after : List Event
  pub is : h ≡ before ++ Hold s k ∷ (between ++ Back s k why.Contended ∷ after)
  pub none_between : own s between ≡ []
  pub last : own s after ≡ []
  pub paid : n ≤ length between

-- a push of the held number k
abbrev pub Posts : ℕ → ℕ → Posted → Known → Known → Type 0
Posts k tries (posted.Queued is_first is_waking) old new = Sees (Push old.number k ∷ []) 0 old new × IsPushed old.number k is_first is_waking new.seen
Posts k tries posted.Closed old new = Sees (Back old.number k why.Closed ∷ []) 0 old new
Posts k tries posted.Draining old new = Sees [] 0 old new × HasMetDrain old.seen new.seen
Posts k tries posted.Contended old new = Sees [] tries old new

-- a chaining of the item k
abbrev pub Chains : ℕ → Answer → Known → Known → Type 0
Chains k (answer.Queued is_first is_waking) old new = (is_first ≡ false) × (is_waking ≡ false) × Sees (Chain k ∷ []) 0 old new
Chains k answer.Pending old new = Sees (ChainBusy k ∷ []) 0 old new
Chains k answer.Closed old new = ⊥
Chains k answer.Draining old new = ⊥
Chains k answer.Contended old new = ⊥

-- all that was accepted before any push of k has ended
abbrev pub HasFlushed : ℕ → List Event → Type 0
HasFlushed k h = (s : ℕ) (before after : List Event) → h ≡ before ++ Push s k ∷ after → IsPrefix (accepted before) (ended h)

-- whatever comes after, nothing more is accepted, begins or ends
abbrev pub IsFinal : Layout → List Event → Type 0
IsFinal layout h =
    (later : List Event) → IsLegal layout (h ++ later)
    → (accepted (h ++ later) ≡ accepted h) × (begun (h ++ later) ≡ begun h) × (ended (h ++ later) ≡ ended h)
