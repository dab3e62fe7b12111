-- What a worker in hand keeps by each step: whether it owes an execution, and that its queue does not drain.
use Rattle.wq_worker.specs.Step.{RunsBy}
use Rattle.wq_calls.proofs.PhaseKept.{SamePhase, phase_still, shut_still, closed_still}
use Rattle.wq_worker.proofs.Rows.{runs_by_phase}
use Rattle.wq_worker.proofs.State.{quiet_taking}
use Rattle.wq_turn.proofs.Common.{ℕ, Bool, true, false, List, [], ◌∷◌, Some, None, Option, MatchOption, sym, refl, subst, Event, Close, IsDraining}
use Rattle.wq_turn.proofs.Common.{IsRunning}
use Rattle.wq_turn.proofs.Common.{Ran, WorkerState, Moves, rest_events, IsReady, IsUnready, owed, nothing, taking, owner_of_both}
use Rattle.wq_turn.specs.Owed.{IsOwed}
use Rattle.wq_turn.proofs.Draining.{close_closes}

pub idle_owes : (o : Bool) (v w : List Event) → IsOwed o v → ¬ IsRunning v → ¬ IsRunning w → IsOwed o w
idle_owes true v w runs idle still = absurd (idle runs)
idle_owes false v w rests idle still = still

pub ready_idle : {W : Type 0} (r : Option ℕ) (a b : WorkerState W) → ¬ IsRunning a.seen → MatchOption r (IsUnready a b) (λ k. IsReady a k b)
    → ¬ IsRunning b.seen
ready_idle None a b idle (owed runs same) = absurd (idle runs)
ready_idle None a b idle (nothing waited none moved left) = none.0
ready_idle (Some k) a b idle step = step.idle

back : (v w : List Event) → SamePhase v w → SamePhase w v
back v w on = record { shut_same = sym on.shut_same; closed_same = sym on.closed_same }

not_draining_on : (v w : List Event) → SamePhase v w → SamePhase w v → ¬ IsDraining v → ¬ IsDraining w
not_draining_on v w on back not draining = not (shut_still w v back draining.0, λ closed. draining.1 (closed_still v w on closed))

module _ {W : Type 0} (a b : WorkerState W) (not : ¬ IsDraining a.seen) where
  keeps : SamePhase a.seen b.seen → ¬ IsDraining b.seen
  keeps on = not_draining_on a.seen b.seen on (back a.seen b.seen on) not

  taken : Moves (taking a.seen) 0 a b → SamePhase a.seen b.seen
  taken moved = (owner_of_both a.number (taking a.seen) 0 a.seen b.seen moved.adds).phase (quiet_taking a.seen).phase_changes_none

  pub ready_not_draining : (r : Option ℕ) → MatchOption r (IsUnready a b) (λ k. IsReady a k b) → ¬ IsDraining b.seen
  ready_not_draining None (owed runs same) = keeps (subst (λ (w : WorkerState W). SamePhase a.seen w.seen) (sym same) (phase_still a.seen))
  ready_not_draining None (nothing waited none moved left) = keeps (taken moved)
  ready_not_draining (Some k) step = keeps (taken step.moves)

  pub rest_not_draining : (rests : Bool) → Moves (rest_events rests) 0 a b → ¬ IsDraining b.seen
  rest_not_draining true moved = keeps ((owner_of_both a.number (rest_events true) 0 a.seen b.seen moved.adds).phase refl)
  rest_not_draining false moved = keeps ((owner_of_both a.number (rest_events false) 0 a.seen b.seen moved.adds).phase refl)

  pub runs_not_draining : (may : W → ℕ → List ℕ → W → Type 0) (gives : W → W → Type 0) (r : Ran) → RunsBy may gives r a b → ¬ IsDraining b.seen
  runs_not_draining may gives r step = keeps (runs_by_phase may gives r a b step)

  pub closed_not_draining : Moves (Close ∷ []) 0 a b → ¬ IsDraining b.seen
  closed_not_draining moved draining = draining.1 (close_closes a b moved)
