-- What a clause sees of a seat of a queue whose items bring values, and what its calls say of these.
use Rattle.std.specs.Prelude.{◌≡◌, ℕ, Bool, List, [], ◌∷◌, ◌++◌, length, take, slice_get, Option, Some, None}
use mathlib.Core.List.{IsPrefix}
use Rattle.wq_words.specs.declared.event.Event.{Event}
use Rattle.wq_words.specs.declared.event.Event.TheVariants.{Chain}
use Rattle.wq_words.specs.declared.answer.Answer.{Answer}
use Rattle.wq_words.specs.declared.answer.Answer.TheVariants as answer
use Rattle.wq_words.specs.History.{accepted, begun}
use Rattle.wq_words.specs.Seen.{owner_seat, own}
use Rattle.wq_calls.specs.declared.value_answer.ValueAnswer.{ValueAnswer}
use Rattle.wq_calls.specs.declared.value_answer.ValueAnswer.TheVariants as value
use Rattle.wq_calls.specs.Answers.{IsPushed}
use Rattle.wq_calls.specs.Known.{Known}

-- what a seat knows, and what each accepted number of the history that it has seen brought, in their order
pub record KnownWith (V : Type 0) : Type 0 where
  pub known : Known
  pub brought : List (Option V)

-- as many were brought as numbers were accepted
abbrev pub MatchesAccepted : {V : Type 0} → KnownWith V → Type 0
MatchesAccepted s = length s.brought ≡ length (accepted s.known.seen)

-- what was brought before begins what is brought now
pub record Learnt {V : Type 0} (old new : KnownWith V) : Type 0 where
  pub more : IsPrefix old.brought new.brought
  pub was_whole : MatchesAccepted old
  pub as_many : MatchesAccepted new

-- what each begun number was handed, in order
abbrev pub handed_in : {V : Type 0} → KnownWith V → List (Option V)
handed_in s = take (length (begun s.known.seen)) s.brought

-- the same answer without its value
abbrev pub answer_of : {V : Type 0} → ValueAnswer V → Answer
answer_of (value.Queued is_first is_waking) = answer.Queued is_first is_waking
answer_of (value.Pending v) = answer.Pending
answer_of (value.Closed v) = answer.Closed
answer_of (value.Contended v) = answer.Contended
answer_of (value.Draining v) = answer.Draining

-- the seat's last event is the push of k, which was first and woke as said, and k brought y at its place
abbrev pub IsBroughtBy : {V : Type 0} → ℕ → Bool → Bool → Option V → KnownWith V → Type 0
IsBroughtBy k is_first is_waking y s =
    (pushed : IsPushed s.known.number k is_first is_waking s.known.seen) × (slice_get s.brought (length (accepted pushed.before)) ≡ Some y)

-- a queueing of k with v: it is what k brought, or comes back
abbrev pub BringsOrReturns : {V : Type 0} → ℕ → V → ValueAnswer V → KnownWith V → Type 0
BringsOrReturns k v (value.Queued is_first is_waking) s = IsBroughtBy k is_first is_waking (Some v) s
BringsOrReturns k v (value.Pending w) s = w ≡ v
BringsOrReturns k v (value.Closed w) s = w ≡ v
BringsOrReturns k v (value.Contended w) s = w ≡ v
BringsOrReturns k v (value.Draining w) s = w ≡ v

-- a queueing of the barrier or stop item k, which brings nothing
abbrev pub BringsNothing : {V : Type 0} → ℕ → Answer → KnownWith V → Type 0
BringsNothing k (answer.Queued is_first is_waking) s = IsBroughtBy k is_first is_waking None s
BringsNothing k a s = Unit {0}

-- the owner's last event is the chaining of k, and v is what k brought at its place
pub record IsChained {V : Type 0} (k : ℕ) (v : V) (s : KnownWith V) : Type 0 where
  pub before : List Event
  pub after : List Event
  pub is : s.known.seen ≡ before ++ Chain k ∷ after
  pub last : own owner_seat after ≡ []
  pub has : slice_get s.brought (length (accepted before)) ≡ Some (Some v)

-- a chaining of k with v: it is what k brought, or comes back
abbrev pub ChainsOrReturns : {V : Type 0} → ℕ → V → ValueAnswer V → KnownWith V → Type 0
ChainsOrReturns k v (value.Queued is_first is_waking) s = IsChained k v s
ChainsOrReturns k v (value.Pending w) s = w ≡ v
ChainsOrReturns k v _ s = ⊥

-- the seats of a new queue, which have seen nothing
abbrev pub knowing_nothing : {V : Type 0} → Known → KnownWith V
knowing_nothing s = record { known = s; brought = [] }
