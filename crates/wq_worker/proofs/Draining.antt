-- What is left of a queue that is shut.
use Rattle.wq_worker.proofs.Common.{◌≡◌, ℕ, ◌+◌, ◌-◌, ◌<◌, ◌≤◌, ⊎_elim, List, [], ◌∷◌, ◌++◌, length, None, slice_get, refl, ap, ◌∙◌, subst, arith}
use Rattle.wq_worker.proofs.Common.{length-append, drop_of_length-le, cases_lt, filter_map-append, Layout, Event, Take, accepted, begun, ended}
use Rattle.wq_worker.proofs.Common.{IsShut, IsRunning, IsLegal, IsComplete, HasRunOut, in_order, prefix_length, shut_from_IsShut, owner_seat, own}
use Rattle.wq_worker.proofs.Common.{Grows, batch, next_of, Ran, Item, Barrier, Stop, Nothing, Owing, Adds, taking, NothingWaits, WorkerState, OwesBy, owes}
use Rattle.wq_worker.proofs.Common.{RunsBy, IsExecution}
use Rattle.std.proofs.Common.{length-drop}
use Rattle.std.proofs.lemmas.Option.{slice_get-get_or}
use Rattle.wq_words.specs.History.{accepted_by, next}
use Rattle.wq_words.proofs.Legal.{legal_front, legal_next}
use Rattle.wq_words.proofs.Prefixes.{prefix_whole}
use Rattle.wq_worker.specs.Seats.{at_take, at_all}
use Rattle.wq_worker.proofs.Owned.{LeavesExecutions, owner_of_both, quiet_stays}
use Rattle.wq_calls.proofs.PhaseKept.{phase_grown, open_still, shut_still}
use Rattle.wq_worker.proofs.Rows.{runs_by_phase}
use Rattle.wq_worker.proofs.Shut.{batch-shut}
use Rattle.wq_worker.proofs.State.{quiet_taking}

past_none : (xs : List ℕ) (i : ℕ) → slice_get xs i ≡ None → length xs ≤ i
past_none xs i none =
    ⊎_elim (λ (low : i < length xs). let some = slice_get-get_or xs i 0 low in absurd (cc)) (λ (high : length xs ≤ i). high) (cases_lt i (length xs))

-- a queue whose owner did nothing since a take is open
no_late_take : (layout : Layout) (before after h : List Event) → h ≡ before ++ Take ∷ after → own owner_seat after ≡ [] → IsLegal layout h → ¬ IsShut h
no_late_take layout before after h is last legal =
    let opens : ¬ IsShut before = (legal_next layout before Take after (subst (IsLegal layout) is legal)).2 in
    let g : Grows owner_seat (Take ∷ []) 0 before h = record {
      new = Take ∷ after;
      is = is;
      mine = ap (λ (es : List Event). Take ∷ es) last;
      theirs = omega arith;
    } in
    open_still before h (phase_grown (Take ∷ []) 0 before h g refl) opens

ended_at : (layout : Layout) (v new w : List Event) → w ≡ v ++ new → IsLegal layout w → ¬ IsRunning v → begun w ≡ begun v → next w ≡ None
    → length (ended v) ≡ length (accepted v)
ended_at layout v new w is legal idle same none =
    let order = in_order layout v (legal_front layout v new (subst (IsLegal layout) is legal)) in
    let past : length (accepted w) ≤ length (begun w) = past_none (accepted w) (length (begun w)) none in
    let b : length (begun w) ≡ length (begun v) = ap (length {A = ℕ}) same in
    let a : length (accepted w) ≡ length (accepted v) + length (accepted new) =
    ap (length {A = ℕ}) (ap accepted is ∙ filter_map-append accepted_by v new) ∙ length-append (accepted v) (accepted new) in
    omega (arith, prefix_length (ended v) (begun v) order.ended_first, prefix_length (begun v) (accepted v) order.begun_first, idle, past, b, a)

-- where nothing waits and nothing runs, a queue that is shut has run out
nothing_left : (layout : Layout) (s n : ℕ) (es v w : List Event) → Adds s es n v w → LeavesExecutions es → IsLegal layout w → IsShut v → ¬ IsRunning v
    → NothingWaits w → length (ended v) ≡ length (accepted v)
nothing_left layout s n es v w a q legal shut idle (at_take before after is last none) =
    let same = quiet_stays es v w q (owner_of_both s es n v w a) in
    absurd (no_late_take layout before after w is last legal (shut_still v w same.phase shut))
nothing_left layout s n es v w a q legal shut idle (at_all now none) =
    let same = quiet_stays es v w q (owner_of_both s es n v w a) in ended_at layout v a.new w a.is legal idle same.begun_same none

module _ {W : Type 0} (may : W → ℕ → List ℕ → W → Type 0) (gives : W → W → Type 0) where
  -- a queue that is shut owes nothing
  pub owes_open : (k : ℕ) (a b : WorkerState W) → OwesBy may gives a k b → ¬ IsShut a.seen
  owes_open k a b (owes f qs j more es fs st split small left opens told moved runs) = λ shut. let now = shut_from_IsShut a.seen shut in absurd (cc)

  -- a queue that is shut and has something left goes on
  pub executes : (r : Ran) (a b : WorkerState W) → IsShut a.seen → ¬ HasRunOut a.seen → RunsBy may gives r a b → IsExecution r × IsShut b.seen
  executes r a b shut rest t = (each r t, shut_still a.seen b.seen (runs_by_phase may gives r a b t) shut)
    where
      each : (r : Ran) → RunsBy may gives r a b → IsExecution r
      each (Item k) t = tt
      each (Barrier k) t = tt
      each Stop t = tt
      each Nothing t =
          absurd (rest (shut, nothing_left b.layout a.number 0 (taking a.seen) a.seen b.seen t.3.adds (quiet_taking a.seen) t.3.legal shut t.0 t.1))
      each (Owing k) t = absurd (owes_open k a b t shut)

pub left_idle : (layout : Layout) (h : List Event) → IsLegal layout h → IsShut h → ¬ IsRunning h → length (batch h) + length (ended h) ≡ length (accepted h)
left_idle layout h legal shut idle =
    let order = in_order layout h legal in
    let n : length (batch h) ≡ length (accepted h) - length (begun h) =
    ap (length {A = ℕ}) (batch-shut h shut) ∙ length-drop (length (begun h)) (accepted h) in
    omega (arith, prefix_length (ended h) (begun h) order.ended_first, prefix_length (begun h) (accepted h) order.begun_first, idle, n)

pub left_running : (layout : Layout) (h : List Event) → IsLegal layout h → IsShut h → IsRunning h
    → (length (batch h) + 1) + length (ended h) ≡ length (accepted h)
left_running layout h legal shut runs =
    let order = in_order layout h legal in
    let n : length (batch h) ≡ length (accepted h) - length (begun h) =
    ap (length {A = ℕ}) (batch-shut h shut) ∙ length-drop (length (begun h)) (accepted h) in
    omega (arith, prefix_length (begun h) (accepted h) order.begun_first, order.one_at_a_time, runs, n)

-- where nothing waits there is no next
pub next_from_empty : (h : List Event) → batch h ≡ [] → next_of h ≡ None
next_from_empty h none = ap (λ (ks : List ℕ). slice_get ks 0) none

-- of a queue that has run out nothing waits, and nothing runs
pub none_left : (layout : Layout) (h : List Event) → IsLegal layout h → HasRunOut h → (batch h ≡ []) × (¬ IsRunning h)
none_left layout h legal out =
    let order = in_order layout h legal in
    let e = prefix_length (ended h) (begun h) order.ended_first in let b = prefix_length (begun h) (accepted h) order.begun_first in (
      batch-shut h out.0 ∙ drop_of_length-le (accepted h) (omega (arith, e, b, out.1)),
      λ runs. omega (arith, e, b, out.1, runs),
    )

pub begun-complete : (layout : Layout) (h : List Event) → IsLegal layout h → IsComplete h → begun h ≡ accepted h
begun-complete layout h legal done =
    let order = in_order layout h legal in
    prefix_whole (begun h) (accepted h) order.begun_first
    (omega (arith, prefix_length (ended h) (begun h) order.ended_first, done.1))
