-- What a worker that got ready answers, that nothing begins by a rest, and what stays while others alone add events.
use Rattle.wq_worker.proofs.Common.{◌≡◌, ℕ, Bool, true, false, List, [], slice_get, Option, Some, None, MatchOption, refl, sym, ap, ◌∙◌, begun, IsRunning}
use Rattle.wq_worker.proofs.Common.{Grows, owner_seat, Known, Sees, next_of, taking}
use Rattle.wq_worker.proofs.Common.{NothingWaits, WorkerState, Moves, rest_events, IsReady, IsUnready}
use Rattle.wq_worker.specs.Resting.{HasNoneLeft, LeavesWork, nothing}
use Rattle.wq_calls.proofs.OwnerStays.{still_owned}
use Rattle.wq_calls.proofs.Owned.{idle_still}

pub ready_told : {W : Type 0} (a b : WorkerState W) (r : Option ℕ) → r ≡ next_of b.seen → (r ≡ None → NothingWaits b.seen) → ¬ IsRunning b.seen
    → Moves (taking a.seen) 0 a b → LeavesWork a b → MatchOption r (IsUnready a b) (λ k. IsReady a k b)
ready_told a b None next waits idle moves left = nothing (waits refl) (idle, sym next) moves left
ready_told a b (Some k) next waits idle moves left = record { idle = idle; moves = moves; work_is = left; next_is = sym next }

pub begun_rest : (rests : Bool) → begun (rest_events rests) ≡ []
begun_rest true = refl
begun_rest false = refl

pub none_left_still : (n : ℕ) (old new : Known) → old.number ≡ owner_seat → Sees [] n old new → Grows owner_seat [] n old.seen new.seen
    → HasNoneLeft old.seen → HasNoneLeft new.seen
none_left_still n old new mine sees g left =
    (idle_still n old.seen new.seen g left.0, ap (λ (ks : List ℕ). slice_get ks 0) (still_owned n old new mine sees).batch_is ∙ left.1)
