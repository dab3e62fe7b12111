-- A queue that is closed and has run to the end.
use Rattle.wq_calls.proofs.Common.{◌≡◌, ℕ, ◌+◌, ◌≤◌, Bool, true, false, cond, List, [], ◌∷◌, ◌++◌, length, take, Option, Some, None, slice_get, sym}
use Rattle.wq_calls.proofs.Common.{refl, ap, ◌∙◌, subst, arith, append_assoc, append-nil, sum_by-append, filter_map-append, Layout, Event, Hold, Busy}
use Rattle.wq_calls.proofs.Common.{Push, Back, Take, Close, Drain, Begin, End, ChainBusy, accepted, accepted_by, begun, begun_by, ended, is_close}
use Rattle.wq_calls.proofs.Common.{IsClosed, IsShut, IsRunning, listed, IsLegal, take-length, keeps_headline, legal_front, legal_next}
use Rattle.wq_calls.proofs.Common.{in_order, prefix_length, Part, Owns, HasStage, IsClosed_from_closed, closed_shuts}
use Rattle.wq_calls.proofs.Common.{Owning as Inside, Known, batch, owner_view, Stands, OwnsQueue, kept_batch, nil_from_length}
use Rattle.std.specs.Prelude.{filter_map}
use Rattle.std.proofs.lemmas.Option.{slice_get_past}
use Rattle.wq_words.specs.declared.event.Event.TheVariants.{Resume, Chain, Rest}
use Rattle.wq_words.specs.History.{ended_by, closed}
use Rattle.wq_words.specs.Legal.{MayFollow, IsComplete, HasRunOut}
use Rattle.wq_words.proofs.Listed.{listed-shut}
use Rattle.std.specs.Option.{is_some}
use Rattle.std.proofs.lemmas.Bool.{false_from_ne_true}
use Rattle.wq_words.proofs.Closed.{closed_from_IsClosed}
use Rattle.wq_calls.specs.Answers.{IsFinal}
use Rattle.wq_calls.proofs.OwnerTells.{stands_legal, owner_batch}
use Rattle.wq_calls.proofs.Taken.{walked_lengths}
use Rattle.wq_words.proofs.Running.{runs_told, idle_told}

-- nothing is accepted, begins or ends by the event
pub record LeavesLists (e : Event) : Type 0 where
  pub accepts : accepted (e ∷ []) ≡ []
  pub begins : begun (e ∷ []) ≡ []
  pub ends : ended (e ∷ []) ≡ []

-- the queue is closed, and all that was accepted has begun and ended
pub record IsAtEnd (h : List Event) : Type 0 where
  pub closed : IsClosed h
  pub begun_all : length (begun h) ≡ length (accepted h)
  pub ended_all : length (ended h) ≡ length (accepted h)

pub run_out : (layout : Layout) (h : List Event) → IsLegal layout h → IsComplete h → IsAtEnd h
run_out layout h legal complete =
    let order = in_order layout h legal in let all = complete.1 in
    let less = prefix_length (begun h) (accepted h) order.begun_first in let more = prefix_length (ended h) (begun h) order.ended_first in
    record { closed = complete.0; begun_all = omega arith; ended_all = all }

none_some : (xs : List ℕ) (i k : ℕ) → length xs ≤ i → slice_get xs i ≡ Some k → ⊥
none_some xs i k past is = let none = slice_get_past xs i past in absurd (cc)

quiet : (h : List Event) (e : Event) → IsAtEnd h → MayFollow h e → LeavesLists e
quiet h (Push s k) out may = absurd (may.1 (closed_shuts h out.closed))
quiet h (Chain k) out may = let runs = may.1 in let a = out.begun_all in let b = out.ended_all in absurd (omega arith)
quiet h (Begin k) out may = let a = out.begun_all in absurd (none_some (accepted h) (length (begun h)) k (omega arith) may.1)
quiet h (End k) out may = let a = out.begun_all in let b = out.ended_all in absurd (none_some (begun h) (length (ended h)) k (omega arith) may)
quiet h (Hold s k) out may = record { accepts = refl; begins = refl; ends = refl }
quiet h (Busy s k) out may = record { accepts = refl; begins = refl; ends = refl }
quiet h (Back s k why) out may = record { accepts = refl; begins = refl; ends = refl }
quiet h Take out may = record { accepts = refl; begins = refl; ends = refl }
quiet h Close out may = record { accepts = refl; begins = refl; ends = refl }
quiet h Drain out may = record { accepts = refl; begins = refl; ends = refl }
quiet h Resume out may = record { accepts = refl; begins = refl; ends = refl }
quiet h (ChainBusy k) out may = record { accepts = refl; begins = refl; ends = refl }
quiet h Rest out may = record { accepts = refl; begins = refl; ends = refl }

one_quiet : (f : Event → Option ℕ) (h : List Event) (e : Event) → filter_map f (e ∷ []) ≡ [] → filter_map f (h ++ e ∷ []) ≡ filter_map f h
one_quiet f h e none = filter_map-append f h (e ∷ []) ∙ (ap (λ (x : List ℕ). filter_map f h ++ x) none ∙ append-nil (filter_map f h))

abbrev pub AllSame : List Event → List Event → Type 0
AllSame h w = (accepted w ≡ accepted h) × (begun w ≡ begun h) × (ended w ≡ ended h)

stays_out : (layout : Layout) (later h : List Event) → IsAtEnd h → IsLegal layout (h ++ later) → AllSame h (h ++ later)
stays_out layout [] h out legal = (ap accepted (append-nil h), ap begun (append-nil h), ap ended (append-nil h))
stays_out layout (e ∷ es) h out legal =
    let q = quiet h e out (legal_next layout h e es legal).2 in let same = append_assoc h (e ∷ []) es in
    let a = one_quiet accepted_by h e q.accepts in let b = one_quiet begun_by h e q.begins in let d = one_quiet ended_by h e q.ends in
    let n = ap (λ (x : List ℕ). length x) a in let m = ap (λ (x : List ℕ). length x) b in let k = ap (λ (x : List ℕ). length x) d in
    let closed = out.closed in let x = out.begun_all in let y = out.ended_all in
    let out' : IsAtEnd (h ++ e ∷ []) = record {
      closed = omega (
        arith,
        sum_by-append (λ x. cond (is_close x) 1 0) h (e ∷ []),
      );
      begun_all = omega arith;
      ended_all = omega arith;
    } in
    let more = stays_out layout es (h ++ e ∷ []) out' (subst (IsLegal layout) (sym same) legal) in
    (ap accepted (sym same) ∙ (more.0 ∙ a), ap begun (sym same) ∙ (more.1 ∙ b), ap ended (sym same) ∙ (more.2 ∙ d))

pub final : (layout : Layout) (h : List Event) → IsComplete h → IsFinal layout h
final layout h complete later legal = stays_out layout later h (run_out layout h (legal_front layout h later legal) complete) legal

-- where a close or a drain has ended, all that was accepted has begun and ended, in order
pub all_run : (layout : Layout) (h : List Event) → IsLegal layout h → HasRunOut h → (ended h ≡ begun h) × (begun h ≡ accepted h)
all_run layout h legal out =
    let whole : take (length h) h ≡ h = take-length h in
    subst (λ (x : List Event). (ended x ≡ begun x) × (begun x ≡ accepted x)) whole
    ((keeps_headline layout h legal).done (length h) (subst HasRunOut (sym whole) out))

-- while the queue takes no push, all has ended where nothing waits or runs
ended_rested : (layout : Layout) (h : List Event) (ks : List ℕ) → IsLegal layout h → IsShut h
    → length (accepted h) ≡ length (begun h) + length ks + length (listed h) → ks ≡ [] → ¬ IsRunning h → length (ended h) ≡ length (accepted h)
ended_rested layout h ks legal shuts sum none idle =
    let order = in_order layout h legal in let more = prefix_length (ended h) (begun h) order.ended_first in
    omega (arith, ap (λ (x : List ℕ). length x) none, ap (λ (x : List ℕ). length x) (listed-shut layout h legal shuts), idle)

-- what waits or runs has not ended
rested_ended : (layout : Layout) (h : List Event) (ks : List ℕ) → IsLegal layout h
    → length (accepted h) ≡ length (begun h) + length ks + length (listed h) → length (ended h) ≡ length (accepted h) → (length ks ≡ 0) × (¬ IsRunning h)
rested_ended layout h ks legal sum all =
    let order = in_order layout h legal in
    let less = prefix_length (begun h) (accepted h) order.begun_first in let more = prefix_length (ended h) (begun h) order.ended_first in
    (omega arith, λ runs. omega arith)

-- what the owner knows of the lengths
pub stands_lengths : (p : Part) (ks : List ℕ) → Stands p → p.stage ≡ Owns None [] ks
    → length (accepted p.seen) ≡ length (begun p.seen) + length ks + length (listed p.seen)
stands_lengths p ks stands is =
    let m = stands.machine in let keeps : HasStage m p.seat (Owns None [] ks) = subst (HasStage m p.seat) is stands.fits.keeps in
    let same = ap (λ (x : List ℕ). length x) keeps.3 in let sum = walked_lengths m stands.sound keeps.1 in
    let whole : length (accepted m.history) ≡ length (begun m.history) + length ks + length (listed m.history) = omega arith in
    subst (λ (h : List Event). length (accepted h) ≡ length (begun h) + length ks + length (listed h)) (sym stands.seen_is) whole

module _ (s : Inside) (now : Known) (view : owner_view s ≡ now) (o : OwnsQueue s) where
  here : (P : List Event → Type 0) → P s.chair.part.seen → P now.seen
  here P = subst (λ (v : Known). P v.seen) view

  there : (P : List Event → Type 0) → P now.seen → P s.chair.part.seen
  there P = subst (λ (v : Known). P v.seen) (sym view)

  lengths : length (accepted s.chair.part.seen)
      ≡ length (begun s.chair.part.seen) + length (kept_batch s.chair.part.stage) + length (listed s.chair.part.seen)
  lengths = stands_lengths s.chair.part (kept_batch s.chair.part.stage) o.stands o.has_row.stage_is

  -- an owner whose queue takes no push, with nothing that waits or runs
  pub owner_ended : IsShut now.seen → s.row.count ≡ 0 → is_some s.running ≡ false → length (ended now.seen) ≡ length (accepted now.seen)
  owner_ended shuts none idle = let p = s.chair.part in
      here (λ h. length (ended h) ≡ length (accepted h))
      (ended_rested p.layout p.seen (kept_batch p.stage) (stands_legal p o.stands) (there IsShut shuts) lengths
      (nil_from_length (kept_batch p.stage) (omega (arith, none, o.has_row.row_is.count_is)))
      (idle_told p.seen s.running o.running_is idle))

  -- as the owner keeps it
  idle_kept : ¬ IsRunning s.chair.part.seen → is_some s.running ≡ false
  idle_kept idle = let p = s.chair.part in false_from_ne_true (is_some s.running)
      (λ some. idle (runs_told p.seen s.running o.running_is some))

  -- where all has ended the owner knows that nothing waits or runs
  pub owner_rested : length (ended now.seen) ≡ length (accepted now.seen) → (s.row.count ≡ 0) × (is_some s.running ≡ false)
  owner_rested all = let p = s.chair.part in
      let rest = rested_ended p.layout p.seen (kept_batch p.stage) (stands_legal p o.stands) lengths
      (there (λ h. length (ended h) ≡ length (accepted h)) all) in
      (omega (arith, rest.0, o.has_row.row_is.count_is), idle_kept rest.1)

  -- where nothing waits or runs the owner knows it
  pub owner_finished : batch now.seen ≡ [] → ¬ IsRunning now.seen → (s.row.count ≡ 0) × (is_some s.running ≡ false)
  owner_finished none idle = (
    omega (arith, ap (λ (x : List ℕ). length x) (owner_batch s now view o ∙ none), o.has_row.row_is.count_is),
    idle_kept (there (λ h. ¬ IsRunning h) idle),
  )

  -- and the other way round
  pub owner_empty : s.row.count ≡ 0 → batch now.seen ≡ []
  owner_empty none = sym (owner_batch s now view o) ∙ nil_from_length (kept_batch s.chair.part.stage) (omega (arith, none, o.has_row.row_is.count_is))

  pub owner_quiet : is_some s.running ≡ false → ¬ IsRunning now.seen
  owner_quiet idle = here (λ h. ¬ IsRunning h) (idle_told s.chair.part.seen s.running o.running_is idle)

  -- the queue is closed where the owner knows it closed
  pub owner_closed : (known : Bool) → known ≡ closed s.chair.part.seen → known ≡ true → IsClosed now.seen
  owner_closed known is holds = here IsClosed (IsClosed_from_closed s.chair.part.seen (sym is ∙ holds))

  pub closed_known : (known : Bool) → known ≡ closed s.chair.part.seen → IsClosed now.seen → known ≡ true
  closed_known known is closes = is ∙ closed_from_IsClosed s.chair.part.seen (there IsClosed closes)

  -- and complete, where nothing waits or runs besides
  pub owner_complete : (known : Bool) → known ≡ closed s.chair.part.seen → known ≡ true → s.row.count ≡ 0 → is_some s.running ≡ false → IsComplete now.seen
  owner_complete known is holds none idle =
      let closes = owner_closed known is holds in (closes, owner_ended (closed_shuts now.seen closes) none idle)

  pub owner_all : HasRunOut now.seen → (ended now.seen ≡ begun now.seen) × (begun now.seen ≡ accepted now.seen)
  owner_all out = let p = s.chair.part in here (λ h. (ended h ≡ begun h) × (begun h ≡ accepted h))
      (all_run p.layout p.seen (stands_legal p o.stands) (there HasRunOut out))
