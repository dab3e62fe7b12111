-- What the queueings of pairs do to an owner and a sender in one seat, and to the work.
use Rattle.std.specs.Prelude.{◌≡◌, ℕ, ◌<◌, Bool, true, false, List, [], ◌∷◌, ◌++◌, Option}
use Rattle.wq_words.specs.declared.event.Event.{Event}
use Rattle.wq_words.specs.History.{shut}
use Rattle.wq_calls.specs.declared.value_answer.ValueAnswer.{ValueAnswer}
use Rattle.wq_calls.specs.declared.value_answer.ValueAnswer.TheVariants as answer
use Rattle.wq_values.specs.Answers.{IsContended}
use Rattle.wq_values.specs.OwnBrought.{own_brought}
use Rattle.wq_values.specs.ValuePairs.{KnownValuePair, KeepsHanded}
use Rattle.wq_value_worker.specs.declared.value_steps.Dealt.{Dealt}
use Rattle.wq_value_worker.specs.declared.value_steps.Dealt.TheVariants.{Queued, Returned, Contended}
use Rattle.wq_worker.specs.Follow.{Queues, contended_of}
use Rattle.wq_worker.specs.Pair.{Both, StaysOr}
use Rattle.wq_value_worker.specs.Returned.{GivenBack, values_in}
use Rattle.wq_value_worker.specs.Deals.{DealsOne, Deals, queueing_seat}

-- what becomes of a pair by the answer to its queueing
abbrev pub dealt_of : {V : Type 0} → ValueAnswer V → Dealt V
dealt_of (answer.Queued is_first is_waking) = Queued
dealt_of (answer.Pending v) = Returned v
dealt_of (answer.Closed v) = Returned v
dealt_of (answer.Contended v) = Contended v
dealt_of (answer.Draining v) = Returned v

abbrev pub brought_in : {V : Type 0} → ℕ → KnownValuePair V → List (Option V)
brought_in s p = own_brought s p.known.seen p.brought

-- The queueing of the pair (k, v) added es, which queued these pairs and gave these back. What the queueing seat brought is so
-- much more, and nothing was handed.
pub record DealsPair {V : Type 0} (k : ℕ) (v : V) (es : List Event) (queued returned : List (ℕ × V)) (old new : KnownValuePair V) : Type 0 where
  pub queues : Queues old.known.layout.items old.known.number (shut old.known.seen) k es
  pub deals : DealsOne k v es queued returned
  pub both : Both es 0 old.known new.known
  pub brings : brought_in (queueing_seat old.known.seen old.known.number) new
      ≡ brought_in (queueing_seat old.known.seen old.known.number) old ++ values_in queued
  pub kept : StaysOr KeepsHanded old new

-- the queueing of (k, v) was contended, with at least so many tries
pub record IsContendedPair {V : Type 0} (k tries : ℕ) (old new : KnownValuePair V) : Type 0 where
  pub item : k < old.known.layout.items
  pub unshut : shut old.known.seen ≡ false
  pub both : Both (contended_of old.known.number k) tries old.known new.known
  pub brings : brought_in (queueing_seat old.known.seen old.known.number) new
      ≡ brought_in (queueing_seat old.known.seen old.known.number) old
  pub kept : KeepsHanded old new
  pub contended : IsContended old.known.number k tries new.known.seen

abbrev pub BothDeal : {V : Type 0} → ℕ → V → ℕ → Dealt V → KnownValuePair V → KnownValuePair V → Type 0
BothDeal k v tries Queued old new = (es : List Event) × DealsPair k v es ((k, v) ∷ []) [] old new
BothDeal k v tries (Returned w) old new = (w ≡ v) × (es : List Event) × DealsPair k v es [] ((k, v) ∷ []) old new
BothDeal k v tries (Contended w) old new = (w ≡ v) × IsContendedPair k tries old new

-- The pairs of `done` were dealt with, which added es, queued these and gave these back to the work.
pub record BothDealAll {V W : Type 0} (log given : W → List (ℕ × V)) (takes : W → ℕ → V → W → Type 0) (done : List (ℕ × V)) (es : List Event)
    (queued returned : List (ℕ × V)) (a b : W) (old new : KnownValuePair V) : Type 0 where
  pub deals : Deals old.known.layout.items old.known.number (shut old.known.seen) done es queued returned
  pub both : Both es 0 old.known new.known
  pub brings : brought_in (queueing_seat old.known.seen old.known.number) new
      ≡ brought_in (queueing_seat old.known.seen old.known.number) old ++ values_in queued
  pub kept : StaysOr KeepsHanded old new
  pub gives : GivenBack takes returned a b
  pub log_is : log b ≡ log a
  pub given_is : given b ≡ given a ++ returned

-- all pairs were dealt with, or the queueing of one was contended: it is the first of those that are left
pub data BothDealOut {V W : Type 0} (log given : W → List (ℕ × V)) (takes : W → ℕ → V → W → Type 0) (tries : ℕ)
    : Bool → List (ℕ × V) → List (ℕ × V) → W → W → KnownValuePair V → KnownValuePair V → Type 0 where
  settles : (done : List (ℕ × V)) (es : List Event) (queued returned : List (ℕ × V)) (a b : W) (old new : KnownValuePair V)
      → BothDealAll log given takes done es queued returned a b old new → BothDealOut log given takes tries true done [] a b old new
  contends : (done : List (ℕ × V)) (k : ℕ) (v : V) (more : List (ℕ × V)) (es : List Event) (queued returned : List (ℕ × V)) (a b : W)
      (old mid new : KnownValuePair V) → BothDealAll log given takes done es queued returned a b old mid → IsContendedPair k tries mid new
      → BothDealOut log given takes tries false (done ++ (k, v) ∷ more) ((k, v) ∷ more) a b old new
