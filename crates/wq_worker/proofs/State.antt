-- A worker's parts after its steps.
use Rattle.wq_worker.proofs.Common.{◌≡◌, ℕ, ◌<◌, ◌≤◌, arith, Bool, true, false, cond, Option, Some, None, List, [], ◌∷◌, ◌++◌, length, refl, sym, ◌∙◌}
use Rattle.wq_worker.proofs.Common.{ap, append-nil, filter_map-append, Layout, Event, Begin, begun_by, begun, ended, shut, IsRunning, IsLegal}
use Rattle.wq_worker.proofs.Common.{KnownPair, next_of, taking, Both, QueuesRest, items_among, count_by, count_by-append, is_phase_change}
use Rattle.std.specs.Prelude.{nat_lt}
use Rattle.std.proofs.lemmas.Bool.{lt-ltb, le-ltb}
use Rattle.std.proofs.lemmas.List.Elements.{filter-append}
use Rattle.wq_words.specs.History.{ended_by}
use Rattle.wq_worker.specs.Seats.{taking_of}
use Rattle.wq_worker.specs.State.{AreWorkerParts}
use Rattle.wq_worker.proofs.Owned.{LeavesExecutions, quiet_stays, owner_of_both}
use Rattle.wq_worker.proofs.Follow.{advance_stays, advance_layout, advance_legal, advance_number}

-- the log goes on as the begun numbers do
pub fit_begun : (ks log more : List ℕ) (tries at : ℕ) (follow : List ℕ) (at' : ℕ) (follow' : List ℕ) (old new : KnownPair)
    → AreWorkerParts log tries at follow old → IsLegal new.layout new.seen → new.number ≡ old.number → new.layout ≡ old.layout
    → begun new.seen ≡ begun old.seen ++ ks → more ≡ log ++ items_among old.layout ks → at' ≤ length follow' → AreWorkerParts more tries at' follow' new
fit_begun ks log more tries at follow at' follow' old new fit legal same size now ran low = record {
  legal = legal;
  numbered = omega (arith, fit.numbered, same, ap (λ (l : Layout). l.senders) size);
  some_try = fit.some_try;
  within = low;
  logged = ran ∙ (ap (λ (z : List ℕ). z ++ items_among old.layout ks) fit.logged ∙
      (sym (filter-append (λ k. nat_lt k old.layout.items) (begun old.seen) ks) ∙
      (ap (items_among old.layout) (sym now) ∙ ap (λ (z : Layout). items_among z (begun new.seen)) (sym size))));
}

pub fit_still : (log : List ℕ) (tries at : ℕ) (follow : List ℕ) (at' : ℕ) (follow' : List ℕ) (old new : KnownPair)
    → AreWorkerParts log tries at follow old → IsLegal new.layout new.seen → new.number ≡ old.number → new.layout ≡ old.layout
    → begun new.seen ≡ begun old.seen → at' ≤ length follow' → AreWorkerParts log tries at' follow' new
fit_still log tries at follow at' follow' old new fit legal same size now low = record {
  legal = legal;
  numbered = omega (arith, fit.numbered, same, ap (λ (l : Layout). l.senders) size);
  some_try = fit.some_try;
  within = low;
  logged = fit.logged ∙ (ap (items_among old.layout) (sym now) ∙ ap (λ (z : Layout). items_among z (begun new.seen)) (sym size));
}

-- where nothing begins
pub begun_both : (xs : List Event) (old new : KnownPair) → begun xs ≡ [] → Both xs 0 old new → begun new.seen ≡ begun old.seen
begun_both xs old new none b =
    let a = owner_of_both old.number xs 0 old.seen new.seen b.adds in
    a.begun_is ∙ (ap (λ (z : List ℕ). begun old.seen ++ z) none ∙ append-nil (begun old.seen))

pub fit_both : (xs : List Event) (log : List ℕ) (tries at : ℕ) (follow : List ℕ) (old new : KnownPair) → begun xs ≡ []
    → AreWorkerParts log tries at follow old → Both xs 0 old new → AreWorkerParts log tries at follow new
fit_both xs log tries at follow old new none fit b =
    fit_still log tries at follow at follow old new fit b.legal b.number_is b.layout_is (begun_both xs old new none b) fit.within

quiet_taking_of : (n : Option ℕ) (b : Bool) → LeavesExecutions (taking_of n b)
quiet_taking_of (Some k) b = record { begun_none = refl; ended_none = refl; phase_changes_none = refl }
quiet_taking_of None true = record { begun_none = refl; ended_none = refl; phase_changes_none = refl }
quiet_taking_of None false = record { begun_none = refl; ended_none = refl; phase_changes_none = refl }

pub quiet_taking : (h : List Event) → LeavesExecutions (taking h)
quiet_taking h = quiet_taking_of (next_of h) (shut h)

-- nothing runs after a take where nothing ran
pub idle_taken : (old new : KnownPair) → Both (taking old.seen) 0 old new → ¬ IsRunning old.seen → ¬ IsRunning new.seen
idle_taken old new b idle =
    let a = owner_of_both old.number (taking old.seen) 0 old.seen new.seen b.adds in
    let s = quiet_stays (taking old.seen) old.seen new.seen (quiet_taking old.seen) a in rw (s.begun_same, s.ended_same) idle

pub phase_changes_taking : (h : List Event) (k : ℕ) → count_by is_phase_change (taking h ++ Begin k ∷ []) ≡ 0
phase_changes_taking h k = omega (arith, count_by-append is_phase_change (taking h) (Begin k ∷ []), (quiet_taking h).phase_changes_none)

pub begun_taking : (h : List Event) (k : ℕ) → begun (taking h ++ Begin k ∷ []) ≡ k ∷ []
begun_taking h k = filter_map-append begun_by (taking h) (Begin k ∷ []) ∙ ap (λ (z : List ℕ). z ++ k ∷ []) (quiet_taking h).begun_none

pub ended_taking : (h : List Event) (k : ℕ) → ended (taking h ++ Begin k ∷ []) ≡ []
ended_taking h k = filter_map-append ended_by (taking h) (Begin k ∷ []) ∙ ap (λ (z : List ℕ). z ++ []) (quiet_taking h).ended_none

pub begun_one : (k : ℕ) (old new : KnownPair) → Both (taking old.seen ++ Begin k ∷ []) 0 old new → begun new.seen ≡ begun old.seen ++ k ∷ []
begun_one k old new b =
    let a = owner_of_both old.number (taking old.seen ++ Begin k ∷ []) 0 old.seen new.seen b.adds in
    a.begun_is ∙ ap (λ (z : List ℕ). begun old.seen ++ z) (begun_taking old.seen k)

pub items_among-item : (layout : Layout) (k : ℕ) → k < layout.items → items_among layout (k ∷ []) ≡ k ∷ []
items_among-item layout k h = ap (λ (b : Bool). cond b (k ∷ []) []) (lt-ltb k layout.items h)

pub items_among-other : (layout : Layout) (k : ℕ) → layout.items ≤ k → items_among layout (k ∷ []) ≡ []
items_among-other layout k h = ap (λ (b : Bool). cond b (k ∷ []) []) (le-ltb k layout.items h)

pub advance_fits : (log : List ℕ) (tries at at' : ℕ) (follow ks js : List ℕ) (old new : KnownPair) → AreWorkerParts log tries at follow old
    → QueuesRest tries ks js old new → at' ≤ length follow → AreWorkerParts log tries at' follow new
advance_fits log tries at at' follow ks js old new fit a low =
    fit_still log tries at follow at' follow old new fit (advance_legal tries ks js old new a) (advance_number tries ks js old new a)
    (advance_layout tries ks js old new a) (advance_stays tries ks js old new a).begun_same low
