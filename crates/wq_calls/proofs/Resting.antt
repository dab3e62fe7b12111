-- What stays where a seat sees more.
use Rattle.wq_calls.proofs.Common.{◌≡◌, ℕ, ◌==◌, Bool, true, false, List, [], ◌∷◌, ◌++◌, length, Option, Some, None, refl, sym, ap, subst, ◌∙◌, cond}
use Rattle.wq_calls.proofs.Common.{arith, length-append, append-nil, Event, Hold, Busy, Push, Back, Answer, filter_map-append, accepted, accepted_by}
use Rattle.wq_calls.proofs.Common.{begun, ended, IsRunning, is_close, IsClosed, IsShut, count_by, sum_by-append, IsLegal, owner_seat, seat_of, own}
use Rattle.wq_calls.proofs.Common.{Grows, own-append, runs_some, runs_from_running, rests_from_running, Known, Sees, Answers, open_from_closed}
use Rattle.wq_calls.proofs.Common.{shut_from_IsShut, IsShut_from_shut, open_from_shut, nil_from_length}
use Rattle.std.specs.List.{cons_option}
use Rattle.wq_words.specs.declared.event.Why.TheVariants as why
use Rattle.wq_words.specs.declared.answer.Answer.TheVariants.{Queued, Pending, Closed, Draining, Contended}
use Rattle.wq_words.specs.declared.answer.Posted.{Posted}
use Rattle.wq_words.specs.declared.answer.Posted.TheVariants as posted
use Rattle.wq_words.specs.declared.event.Event.TheVariants.{Chain, ChainBusy, Rest}
use Rattle.wq_calls.specs.Rest.{Rests}
use Rattle.wq_words.specs.Legal.{IsComplete}
use Rattle.wq_calls.specs.Answers.{TestsAndSets, Posts, Chains}
use Rattle.wq_words.proofs.Running.{running_from_rests}
use Rattle.wq_calls.specs.Laws.{queued_number, pushed_number, IsStillEnd}
use Rattle.wq_calls.proofs.Growing.{grows_own, grows_mine}
use Rattle.wq_calls.proofs.Owned.{running_quiet}
use Rattle.wq_calls.proofs.Phases.{is_phase_change, closed_quiet, shut_still}
use Rattle.wq_words.proofs.Closed.{closed_from_open, shut_from_open}
use Rattle.wq_calls.proofs.Final.{final}

-- nothing runs where nothing ran before and the owner neither began nor ended
pub quiet_idle : (xs : List Event) (n : ℕ) (old new : Known) → old.number ≡ owner_seat → Sees xs n old new → begun xs ≡ [] → ended xs ≡ []
    → ¬ IsRunning old.seen → ¬ IsRunning new.seen
quiet_idle xs n old new mine sees b e rests =
    let g = grows_mine xs n old new mine sees in
    rests_from_running new.seen (running_quiet xs n old.seen new.seen g b e ∙ running_from_rests old.seen rests)

-- and what ran still runs
pub quiet_runs : (xs : List Event) (n : ℕ) (old new : Known) → old.number ≡ owner_seat → Sees xs n old new → begun xs ≡ [] → ended xs ≡ []
    → IsRunning old.seen → IsRunning new.seen
quiet_runs xs n old new mine sees b e runs =
    let g = grows_mine xs n old new mine sees in
    let some = runs_some old.seen runs in runs_from_running new.seen some.0 (running_quiet xs n old.seen new.seen g b e ∙ some.1)

-- a closed queue stays closed
pub closed_stays : (xs : List Event) (n : ℕ) (old new : Known) → Sees xs n old new → IsClosed old.seen → IsClosed new.seen
closed_stays xs n old new sees closed =
    let more = sum_by-append (λ e. cond (is_close e) 1 0) old.seen sees.grows.new in
    omega (arith, closed, more, ap (λ (h : List Event). count_by is_close h) sees.grows.is)

module _ (xs : List Event) (n : ℕ) (old new : Known) (mine : old.number ≡ owner_seat) (sees : Sees xs n old new) (none : count_by is_phase_change xs ≡ 0) where
  grows : Grows owner_seat xs n old.seen new.seen
  grows = grows_mine xs n old new mine sees

  -- where its owner neither closes it, nor begins or ends a drain, the queue stays unclosed, shut or open
  pub unclosed_stays : ¬ IsClosed old.seen → ¬ IsClosed new.seen
  unclosed_stays unclosed = open_from_closed new.seen (closed_quiet xs n old.seen new.seen grows none ∙ closed_from_open old.seen unclosed)

  pub shut_stays : IsShut old.seen → IsShut new.seen
  shut_stays shuts = IsShut_from_shut new.seen (shut_still xs n old.seen new.seen grows none ∙ shut_from_IsShut old.seen shuts)

  pub open_stays : ¬ IsShut old.seen → ¬ IsShut new.seen
  open_stays opens = open_from_shut new.seen (shut_still xs n old.seen new.seen grows none ∙ shut_from_open old.seen opens)

-- where nothing is accepted, nothing is of any seat
none_first : (o : Option ℕ) (ks : List ℕ) → cons_option o ks ≡ [] → (o ≡ None) × (ks ≡ [])
none_first None ks none = (refl, none)
none_first (Some k) ks none = absurd (cc)

none_kept : (b : Bool) (e : Event) (es : List Event) → accepted_by e ≡ None → accepted es ≡ [] → accepted (cond b (e ∷ es) es) ≡ []
none_kept true e es first none = rw first none
none_kept false e es first none = none

own_none : (s : ℕ) (es : List Event) → accepted es ≡ [] → accepted (own s es) ≡ []
own_none s [] none = refl
own_none s (e ∷ es) none = let both = none_first (accepted_by e) (accepted es) none in
    none_kept (seat_of e == s) e (own s es) both.0 (own_none s es both.1)

pub none_more : (h es : List Event) → accepted (h ++ es) ≡ accepted h → accepted es ≡ []
none_more h es same =
    nil_from_length (accepted es) (omega (arith, ap length (sym (filter_map-append accepted_by h es) ∙ same), length-append (accepted h) (accepted es)))

pub own_still : (s : ℕ) (h es : List Event) → accepted es ≡ [] → accepted (own s (h ++ es)) ≡ accepted (own s h)
own_still s h es none =
    ap accepted (own-append s h es) ∙ (filter_map-append accepted_by (own s h) (own s es)
    ∙ (ap (λ (ks : List ℕ). accepted (own s h) ++ ks) (own_none s es none) ∙ append-nil (accepted (own s h))))

-- what has come to its end stays as it is
pub complete_stays : (xs : List Event) (n : ℕ) (old new : Known) → Sees xs n old new → IsComplete old.seen → IsStillEnd old.seen new.seen
complete_stays xs n old new sees complete =
    let same = final new.layout old.seen complete sees.grows.new (subst (IsLegal new.layout) sees.grows.is sees.legal) in record {
      accepted_is = ap accepted sees.grows.is ∙ same.0;
      of_each = λ s. ap (λ (h : List Event). accepted (own s h)) sees.grows.is
          ∙ own_still s old.seen sees.grows.new (none_more old.seen sees.grows.new same.0);
      begun_is = ap begun sees.grows.is ∙ same.1;
      ended_is = ap ended sees.grows.is ∙ same.2;
    }

accepted_on : (xs : List Event) (n : ℕ) (old new : Known) → Sees xs n old new
    → accepted (own old.number new.seen) ≡ accepted (own old.number old.seen) ++ accepted xs
accepted_on xs n old new sees =
    ap accepted (grows_own old.number xs n old.seen new.seen sees.grows) ∙ filter_map-append accepted_by (own old.number old.seen) xs

-- where none of its own events queues
pub accepted_still : (n : ℕ) (xs : List Event) (old new : Known) → Sees xs n old new → accepted xs ≡ []
    → accepted (own new.number new.seen) ≡ accepted (own old.number old.seen)
accepted_still n xs old new sees none = let s = old.number in
    ap (λ (c : ℕ). accepted (own c new.seen)) sees.same.number_is ∙ (accepted_on xs n old new sees
    ∙ (ap (λ (ks : List ℕ). accepted (own s old.seen) ++ ks) none ∙ append-nil (accepted (own s old.seen))))

pub accepted_tested : (k : ℕ) (b : Bool) (old new : Known) → TestsAndSets k b old new → accepted (own new.number new.seen) ≡ accepted (own old.number old.seen)
accepted_tested k true old new told = accepted_still 0 (Hold old.number k ∷ []) old new told refl
accepted_tested k false old new told = accepted_still 0 (Busy old.number k ∷ []) old new told refl

pub accepted_rested : (b : Bool) (old new : Known) → Rests b old new → accepted (own new.number new.seen) ≡ accepted (own old.number old.seen)
accepted_rested true old new rests = accepted_still 0 (Rest ∷ []) old new rests refl
accepted_rested false old new rests = accepted_still 0 [] old new rests refl

-- what a queueing adds to what was accepted of its sender
pub queued_accepted : (k tries : ℕ) (a : Answer) (old new : Known) → Answers k tries a old new
    → accepted (own old.number new.seen) ≡ accepted (own old.number old.seen) ++ queued_number k a
queued_accepted k tries (Queued is_first is_waking) old new told = accepted_on (Hold old.number k ∷ Push old.number k ∷ []) 0 old new told.0
queued_accepted k tries Pending old new told = accepted_on (Busy old.number k ∷ []) 0 old new told
queued_accepted k tries Closed old new told = accepted_on (Hold old.number k ∷ Back old.number k why.Closed ∷ []) 0 old new told
queued_accepted k tries Draining old new told = accepted_on (Hold old.number k ∷ Back old.number k why.Draining ∷ []) 0 old new told.0
queued_accepted k tries Contended old new told = accepted_on (Hold old.number k ∷ Back old.number k why.Contended ∷ []) tries old new told

-- what a push and a chaining add
pub posted_accepted : (k tries : ℕ) (a : Posted) (old new : Known) → Posts k tries a old new
    → accepted (own old.number new.seen) ≡ accepted (own old.number old.seen) ++ pushed_number k a
posted_accepted k tries (posted.Queued is_first is_waking) old new told = accepted_on (Push old.number k ∷ []) 0 old new told.0
posted_accepted k tries posted.Closed old new told = accepted_on (Back old.number k why.Closed ∷ []) 0 old new told
posted_accepted k tries posted.Draining old new told = accepted_on [] 0 old new told.0
posted_accepted k tries posted.Contended old new told = accepted_on [] tries old new told

pub chained_accepted : (k : ℕ) (a : Answer) (old new : Known) → Chains k a old new
    → accepted (own old.number new.seen) ≡ accepted (own old.number old.seen) ++ queued_number k a
chained_accepted k (Queued is_first is_waking) old new told = accepted_on (Chain k ∷ []) 0 old new told.2
chained_accepted k Pending old new told = accepted_on (ChainBusy k ∷ []) 0 old new told
chained_accepted k Closed old new told = absurd told
chained_accepted k Draining old new told = absurd told
chained_accepted k Contended old new told = absurd told
