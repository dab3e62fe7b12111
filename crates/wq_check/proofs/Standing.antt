-- How a queue stands tells of each next event whether it may come, and what is left.
use Rattle.wq_check.proofs.Common.{◌≡◌, ◌≢◌, ℕ, suc, ◌+◌, ◌-◌, ◌<◌, ◌≤◌, ◌↔◌, Bool, true, false, List, ◌∷◌, length, drop, get_or}
use Rattle.wq_check.proofs.Common.{slice_get, Some, None, is_some, refl, sym, ap, ◌∙◌, arith, false≢true, Event, Hold, Busy, Push, Back, Take}
use Rattle.wq_check.proofs.Common.{Close, Drain, Resume, Begin, Chain, ChainBusy, Rest, number_count, accepted, begun, ended, running, IsRunning}
use Rattle.wq_check.proofs.Common.{Keeper, Home, Sender, Listed, Owner, keeper, slice_get_append, prefix_length, in_order, queue_bit, kept, Idle}
use Rattle.wq_check.proofs.Common.{unbegun, slice_get-drop}
use Rattle.std.proofs.Common.{not, IsTrue}
use Rattle.std.proofs.Common.{Option, length-drop}
use Rattle.std.specs.List.{Contains}
use Rattle.std.specs.Option.{MatchOption}
use Rattle.wq_words.specs.declared.event.Event.TheVariants.{End}
use Rattle.wq_words.specs.History.{next, IsPending, Holds, IsClosed, IsShut}
use Rattle.wq_words.specs.Legal.{MayFollow}
use Rattle.wq_words.proofs.Running.{runs_from_running, rests_from_running, running_from_rests}
use Rattle.wq_words.proofs.Closed.{closed_from_IsClosed, closed_from_open, IsClosed_from_closed, open_from_closed}
use Rattle.wq_words.proofs.Closed.{shut_from_IsShut, shut_from_open, IsShut_from_shut, open_from_shut, closed_shuts}
use Rattle.wq_words.proofs.Keepers.{pending_bit}
use Rattle.wq_words.proofs.Places.{keeper_from_keeps, keeps_from_keeper}
use Rattle.wq_check.specs.declared.queue.Place.{Place}
use Rattle.wq_check.specs.declared.queue.Place.TheVariants.{Held, Waiting}
use Rattle.wq_check.specs.Checked.{QueueState, place_by_keeper, StandsAfter}
use Rattle.wq_check.specs.declared.cause.Cause.{Cause}
use Rattle.wq_check.specs.declared.cause.Cause.TheVariants as cause
use Rattle.wq_check.specs.Left.{left}
use Rattle.wq_check.specs.Causes.{HasCause}
use Rattle.wq_words.proofs.Waits.{waits_bit}
use Rattle.wq_words.proofs.Times.{times_from_Contains, Contains_from_times, times-first}
use Rattle.wq_check.proofs.Lists.{drop_some, never_empty}
use Rattle.wq_words.proofs.Cases.{none_told}

abbrev pub number_place : QueueState → ℕ → Place
number_place c k = get_or c.places k Idle

-- places and keepers
idle_home : (x : Keeper) → place_by_keeper x ≡ Idle → x ≡ Home
idle_home Home e = refl
idle_home (Sender s) e = absurd cc
idle_home Listed e = absurd cc
idle_home Owner e = absurd cc

held_sender : (s : ℕ) (x : Keeper) → place_by_keeper x ≡ Held s → x ≡ Sender s
held_sender s Home e = absurd cc
held_sender s (Sender t) e = ap Sender cc
held_sender s Listed e = absurd cc
held_sender s Owner e = absurd cc

away_pending : (x : Keeper) (sets clears : ℕ) → place_by_keeper x ≢ Idle → sets ≡ clears + pending_bit x → clears < sets
away_pending Home sets clears ne e = absurd (ne refl)
away_pending (Sender s) sets clears ne e = omega (arith, e)
away_pending Listed sets clears ne e = omega (arith, e)
away_pending Owner sets clears ne e = omega (arith, e)

waiting_bit : (x : Keeper) → place_by_keeper x ≡ Waiting → queue_bit x ≡ 1
waiting_bit Home e = absurd cc
waiting_bit (Sender s) e = absurd cc
waiting_bit Listed e = refl
waiting_bit Owner e = refl

bit_waiting : (x : Keeper) → 1 ≤ queue_bit x → place_by_keeper x ≡ Waiting
bit_waiting Home some = absurd (omega (arith, some))
bit_waiting (Sender s) some = absurd (omega (arith, some))
bit_waiting Listed some = refl
bit_waiting Owner some = refl

first_waits : (h : List Event) (k : ℕ) → next h ≡ Some k → Contains (unbegun h) k
first_waits h k is =
    let at : unbegun h ≡ k ∷ drop (suc (length (begun h))) (accepted h) = drop_some (accepted h) (length (begun h)) k is in
    Contains_from_times k (unbegun h) (rw at (omega (arith, times-first k (drop (suc (length (begun h))) (accepted h)))))

-- an event against which the events before say something may not follow them
pub refuses : (h : List Event) (e : Event) (why : Cause) → HasCause h e why → ¬ MayFollow h e
refuses h (Hold s k) cause.Pending is may = may is
refuses h (Busy s k) cause.Idle is may = is may
refuses h (Push s k) cause.NotHeld is may = is may.0
refuses h (Push s k) cause.Closed is may = may.1 (closed_shuts h is.1)
refuses h (Push s k) cause.Draining is may = may.1 is.1.0
refuses h (Back s k why) cause.NotHeld is may = is may.0
refuses h (Back s k why) cause.Open is may = is.2 (rw is.1 at may.1)
refuses h (Back s k why) cause.NeverDrained is may = is.2 (rw is.1 at may.1)
refuses h Take cause.Closed is may = may (closed_shuts h is)
refuses h Take cause.Draining is may = may is.0
refuses h Close cause.Closed is may = may is
refuses h Drain cause.Closed is may = may (closed_shuts h is)
refuses h Drain cause.Draining is may = may is.0
refuses h Resume cause.NotDraining is may = is may.0
refuses h Resume cause.NotEnded is may = is.1 may.1
refuses h (Begin k) (cause.Runs j) is may = may.0 (runs_from_running h j is)
refuses h (Begin k) cause.NotWaiting is may = is.1 (first_waits h k may.1)
refuses h (Begin k) (cause.Next j) is may = is.3 (cc (is.2, may.1))
refuses h (End k) cause.NothingRuns is may = is (runs_from_running h k may)
refuses h (End k) (cause.Runs j) is may = is.1 (cc (is.0, may))
refuses h (Chain k) cause.Open is may = is may.0
refuses h (Chain k) cause.NothingRuns is may = is.1 may.1
refuses h (Chain k) cause.Pending is may = may.2 is.2
refuses h (ChainBusy k) cause.Open is may = is may.0
refuses h (ChainBusy k) cause.NothingRuns is may = is.1 may.1
refuses h (ChainBusy k) cause.Idle is may = is.2 may.2
refuses h Rest cause.Closed is may = may.0 (closed_shuts h is)
refuses h Rest cause.Draining is may = may.0 is.0
refuses h Rest cause.NotEnded is may = is.1 may.1
refuses h _ _ is may = absurd is

-- what is said against a Take, if anything, is said against a Push of what its sender holds, and against a Rest
pub push_too : (h : List Event) (s k : ℕ) (answer : Option Cause) → Holds h s k → MatchOption answer (MayFollow h Take) (HasCause h Take)
    → MatchOption answer (MayFollow h (Push s k)) (HasCause h (Push s k))
push_too h s k None holds is = (holds, is)
push_too h s k (Some cause.Closed) holds is = (holds, is)
push_too h s k (Some cause.Draining) holds is = (holds, is)
push_too h s k (Some _) holds is = absurd is

pub rest_too : (h : List Event) (why : Cause) → HasCause h Take why → HasCause h Rest why
rest_too h cause.Closed is = is
rest_too h cause.Draining is = is
rest_too h _ is = absurd is

-- a test and its negation
pub not-is : (b : Bool) (P : Type 0) → (IsTrue b ↔ P) → IsTrue (not b) ↔ (P → ⊥)
not-is true P e = (λ is p. false≢true is, λ none. absurd (none (e.0 refl)))
not-is false P e = (λ is p. false≢true (e.1 p), λ none. refl)

module _ (c : QueueState) (h : List Event) (o : StandsAfter c h) where
  pub idle-free : (k : ℕ) → k < number_count c.layout → (number_place c k ≡ Idle) ↔ (¬ IsPending h k)
  idle-free k lt = (
    λ e. keeps_from_keeper c.layout h o.legal k Home (idle_home (keeper h k) (sym (o.places_are k lt) ∙ e)),
    λ free. o.places_are k lt ∙ ap place_by_keeper (keeper_from_keeps c.layout h o.legal k Home free),
  )

  pub away-pending : (k : ℕ) → k < number_count c.layout → (number_place c k ≢ Idle) ↔ IsPending h k
  away-pending k lt = (
    λ ne. away_pending (keeper h k) _ _ (λ e. ne (o.places_are k lt ∙ e)) (kept c.layout h o.legal 0 k).1,
    λ is e. (idle-free k lt).0 e is,
  )

  pub held-holds : (s k : ℕ) → k < number_count c.layout → (number_place c k ≡ Held s) ↔ Holds h s k
  held-holds s k lt = (
    λ e. keeps_from_keeper c.layout h o.legal k (Sender s) (held_sender s (keeper h k) (sym (o.places_are k lt) ∙ e)),
    λ holds. o.places_are k lt ∙ ap place_by_keeper (keeper_from_keeps c.layout h o.legal k (Sender s) holds),
  )

  pub is-closed : (c.closed ≡ true) ↔ IsClosed h
  is-closed = (λ e. IsClosed_from_closed h (sym o.closed_is ∙ e), λ is. o.closed_is ∙ closed_from_IsClosed h is)

  pub not-closed : (c.closed ≡ false) ↔ (¬ IsClosed h)
  not-closed = (λ e. open_from_closed h (sym o.closed_is ∙ e), λ is. o.closed_is ∙ closed_from_open h is)

  pub is-shut : (c.shut ≡ true) ↔ IsShut h
  is-shut = (λ e. IsShut_from_shut h (sym o.shut_is ∙ e), λ is. o.shut_is ∙ shut_from_IsShut h is)

  pub not-shut : (c.shut ≡ false) ↔ (¬ IsShut h)
  not-shut = (λ e. open_from_shut h (sym o.shut_is ∙ e), λ is. o.shut_is ∙ shut_from_open h is)

  pub idle-rests : (c.running ≡ None) ↔ (¬ IsRunning h)
  idle-rests = (λ e. rests_from_running h (sym o.running_is ∙ e), λ rests. o.running_is ∙ running_from_rests h rests)

  pub busy-runs : (c.running ≢ None) ↔ IsRunning h
  busy-runs = (λ ne. runs c.running o.running_is ne, λ is e. idle-rests.0 e is)
    where
      runs : (r : Option ℕ) → r ≡ running h → r ≢ None → IsRunning h
      runs None e ne = absurd (ne refl)
      runs (Some k) e ne = runs_from_running h k (sym e)

  pub next_is : slice_get c.waiting 0 ≡ next h
  next_is = ap (λ xs. slice_get xs 0) o.waiting_is ∙ slice_get-drop (length (begun h)) (accepted h)

  pub runs_not : is_some c.running ≡ false → ¬ IsRunning h
  runs_not none = idle-rests.0 (none_told c.running none)

  pub runs_one : is_some c.running ≡ true → IsRunning h
  runs_one some = busy-runs.0 (λ none. false≢true (ap is_some (sym none) ∙ some))

  -- nothing is left exactly where as many have ended as were accepted
  pub left-ended : (length (left h) ≡ 0) ↔ (length (ended h) ≡ length (accepted h))
  left-ended =
      let i = in_order c.layout h o.legal in
      let size : length (left h) ≡ length (accepted h) - length (ended h) = length-drop (length (ended h)) (accepted h) in
      let most = prefix_length (begun h) (accepted h) i.begun_first in
      let fewest = prefix_length (ended h) (begun h) i.ended_first in
      (λ none. omega (arith, size, most, fewest, none), λ same. omega (arith, size, same))

  -- a number waits where its place says so
  pub waiting-waits : (k : ℕ) → k < number_count c.layout → (number_place c k ≡ Waiting) ↔ Contains (unbegun h) k
  waiting-waits k lt = (
    λ e. Contains_from_times k (unbegun h) (omega (arith, waits_bit c.layout h o.legal k, waiting_bit (keeper h k) (sym (o.places_are k lt) ∙ e))),
    λ is. o.places_are k lt ∙ bit_waiting (keeper h k) (omega (arith, waits_bit c.layout h o.legal k, times_from_Contains k (unbegun h) is)),
  )

  -- something waits, so there is a first
  pub first_of : (k : ℕ) → Contains (unbegun h) k → slice_get c.waiting 0 ≡ None → ⊥
  first_of k is none = never_empty c.waiting k (rw (← o.waiting_is) at is) none

  -- what is left is what waits, behind what runs
  pub left_rests : c.running ≡ None → left h ≡ c.waiting
  left_rests none =
      let i = in_order c.layout h o.legal in
      let same : length (ended h) ≡ length (begun h) = omega (arith, idle-rests.0 none, prefix_length (ended h) (begun h) i.ended_first) in
      ap (λ n. drop n (accepted h)) same ∙ sym o.waiting_is

  pub left_runs : (k : ℕ) → c.running ≡ Some k → left h ≡ k ∷ c.waiting
  left_runs k runs =
      let i = in_order c.layout h o.legal in
      let at : running h ≡ Some k = sym o.running_is ∙ runs in
      let same : length (begun h) ≡ suc (length (ended h)) = omega (arith, i.one_at_a_time, runs_from_running h k at) in
      let there : slice_get (accepted h) (length (ended h)) ≡ Some k =
      ap (λ xs. slice_get xs (length (ended h))) (sym i.begun_first.1) ∙ slice_get_append (begun h) i.begun_first.0 (length (ended h)) k at in
      drop_some (accepted h) (length (ended h)) k there ∙ ap (λ xs. k ∷ xs) (ap (λ n. drop n (accepted h)) (sym same) ∙ sym o.waiting_is)
