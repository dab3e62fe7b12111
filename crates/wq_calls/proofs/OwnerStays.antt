-- What an owner knows of its batch and of what it executes stays while others alone add events.
use Rattle.wq_calls.proofs.Common.{◌≡◌, ℕ, ◌≤◌, Bool, true, false, List, [], ◌∷◌, ◌++◌, Some, length, refl, ap, ◌∙◌, subst, arith, append-nil, Layout, Event, accepted, begun}
use Rattle.wq_calls.proofs.Common.{ended, running, IsShut, accepted-append, legal_front, begun_same, own-append, IsLegal, owner_seat, own, Grows, batch}
use Rattle.wq_calls.proofs.Common.{sym, Known, Sees, KnownWith, Learnt, sender_counts}
use Rattle.std.specs.Prelude.{drop}
use Rattle.std.proofs.lemmas.List.{take-append-le}
use Rattle.wq_words.specs.History.{taken}
use Rattle.wq_words.proofs.Listed.{length-accepted}
use Rattle.wq_words.proofs.OtherSeats.{accepted_shut, taken_still}
use Rattle.wq_calls.specs.Counts.{owner_counts}
use Rattle.wq_calls.specs.Laws.{IsStillEnd, IsStillOwned}
use Rattle.wq_calls.proofs.Counting.{counts_none}
use Rattle.wq_calls.proofs.Growing.{grows_mine}
use Rattle.wq_calls.proofs.Owned.{begun_on, ended_on, running_quiet, counts_quiet}
use Rattle.wq_calls.proofs.Phases.{closed_quiet, shut_still}
use Rattle.wq_calls.proofs.Resting.{own_still, none_more, quiet_idle, quiet_runs, closed_stays, unclosed_stays, shut_stays, open_stays}
use Rattle.wq_calls.specs.Rest.{Rests}
use Rattle.wq_words.specs.declared.event.Event.TheVariants.{Rest, End}
use Rattle.wq_calls.proofs.HandedOver.{met_end}

pub batch_still : (layout : Layout) (v new : List Event) → IsLegal layout (v ++ new) → own owner_seat new ≡ [] → batch (v ++ new) ≡ batch v
batch_still layout v new legal none =
    let few : taken v ≤ length (accepted v) = omega (arith, length-accepted layout v (legal_front layout v new legal)) in
    let begins : begun (v ++ new) ≡ begun v = begun_same v (v ++ new) (own-append owner_seat v new
    ∙ (ap (λ (x : List Event). own owner_seat v ++ x) none ∙ append-nil (own owner_seat v))) in
    rw (begins, taken_still layout v new legal none, accepted-append v new)
    (ap (drop (length (begun v))) (take-append-le (taken v) (accepted v) (accepted new) few))

module _ (n : ℕ) (xs : List Event) (old new : Known) (mine : old.number ≡ owner_seat) (sees : Sees xs n old new) where
  pub begun_grows : begun new.seen ≡ begun old.seen ++ begun xs
  begun_grows = begun_on xs n old.seen new.seen (grows_mine xs n old new mine sees)

  pub ended_grows : ended new.seen ≡ ended old.seen ++ ended xs
  ended_grows = ended_on xs n old.seen new.seen (grows_mine xs n old new mine sees)

  pub still_running : begun xs ≡ [] → ended xs ≡ [] → running new.seen ≡ running old.seen
  still_running = running_quiet xs n old.seen new.seen (grows_mine xs n old new mine sees)

  -- where none of its own events begins or ends an execution
  pub still_executed : begun xs ≡ [] → ended xs ≡ [] → (begun new.seen ≡ begun old.seen) × (ended new.seen ≡ ended old.seen)
  still_executed b e = (
    begun_grows ∙ (ap (λ (ks : List ℕ). begun old.seen ++ ks) b ∙ append-nil (begun old.seen)),
    ended_grows ∙ (ap (λ (ks : List ℕ). ended old.seen ++ ks) e ∙ append-nil (ended old.seen)),
  )

pub still_rested : (b : Bool) (old new : Known) → old.number ≡ owner_seat → Rests b old new
    → (begun new.seen ≡ begun old.seen) × (ended new.seen ≡ ended old.seen)
still_rested true old new mine rests = still_executed 0 (Rest ∷ []) old new mine rests refl refl
still_rested false old new mine rests = still_executed 0 [] old new mine rests refl refl

-- the end of what runs
pub ends_running : (old new : Known) → old.number ≡ owner_seat → ((k : ℕ) → running old.seen ≡ Some k → Sees (End k ∷ []) 0 old new) → (j : ℕ)
    → running old.seen ≡ Some j
    → (begun new.seen ≡ begun old.seen) × ((k : ℕ) → running old.seen ≡ Some k → ended new.seen ≡ ended old.seen ++ k ∷ [])
ends_running old new mine sees j runs = (
  begun_grows 0 (End j ∷ []) old new mine (sees j runs) ∙ append-nil (begun old.seen),
  λ k is. ended_grows 0 (End k ∷ []) old new mine (sees k is),
)

module _ (n : ℕ) (old new : Known) (mine : old.number ≡ owner_seat) (sees : Sees [] n old new) where
  g : Grows owner_seat [] n old.seen new.seen
  g = grows_mine [] n old new mine sees

  legal : IsLegal new.layout (old.seen ++ g.new)
  legal = subst (IsLegal new.layout) g.is sees.legal

  pub still_owned : IsStillOwned old.seen new.seen
  still_owned = record {
    batch_is = ap batch g.is ∙ batch_still new.layout old.seen g.new legal g.mine;
    begun_is = begun_grows n [] old new mine sees ∙ append-nil (begun old.seen);
    ended_is = ended_grows n [] old new mine sees ∙ append-nil (ended old.seen);
    running_is = running_quiet [] n old.seen new.seen g refl refl;
    closed_is = closed_quiet [] n old.seen new.seen g refl;
    shut_is = shut_still [] n old.seen new.seen g refl;
    stays_idle = quiet_idle [] n old new mine sees refl refl;
    stays_running = quiet_runs [] n old new mine sees refl refl;
    stays_open = open_stays [] n old new mine sees refl;
    stays_shut = shut_stays [] n old new mine sees refl;
    stays_unclosed = unclosed_stays [] n old new mine sees refl;
    stays_closed = closed_stays [] n old new sees;
  }

  pub shut_end : IsShut old.seen → IsStillEnd old.seen new.seen
  shut_end shuts = let same = accepted_shut new.layout old.seen g.new legal shuts g.mine in record {
    accepted_is = ap accepted g.is ∙ same;
    of_each = λ s. ap (λ (h : List Event). accepted (own s h)) g.is ∙ own_still s old.seen g.new (none_more old.seen g.new same);
    begun_is = begun_grows n [] old new mine sees ∙ append-nil (begun old.seen);
    ended_is = ended_grows n [] old new mine sees ∙ append-nil (ended old.seen);
  }

-- and so does what was brought, where the queue takes no push
pub shut_brought : {V : Type 0} (n : ℕ) (old new : KnownWith V) → old.known.number ≡ owner_seat → Sees [] n old.known new.known → IsShut old.known.seen
    → Learnt old new → new.brought ≡ old.brought
shut_brought n old new mine sees shuts learnt = met_end old new learnt (shut_end n old.known new.known mine sees shuts)

-- what was counted stays where no own event comes
pub sender_counted : (n : ℕ) (old new : Known) → Sees [] n old new → sender_counts old.number new.seen ≡ sender_counts old.number old.seen
sender_counted n old new sees = sym (counts_none old.number n old.seen new.seen (sender_counts old.number old.seen) refl sees.grows)

pub owner_counted : (n : ℕ) (old new : Known) → old.number ≡ owner_seat → Sees [] n old new → owner_counts new.seen ≡ owner_counts old.seen
owner_counted n old new mine sees =
    sym (counts_quiet [] n old.seen new.seen (grows_mine [] n old new mine sees) refl refl refl (owner_counts old.seen) refl)
