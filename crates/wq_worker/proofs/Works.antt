-- The steps of a worker that run nothing.
use Rattle.wq_worker.proofs.Common.{ℕ, Bool, true, false, Option, Some, None, MatchOption, List, [], refl, subst, Event, shut, IsLegal}
use Rattle.wq_worker.proofs.Common.{next_of, taking, WorkerState, Moves, IsReady, IsUnready, rest_events}
use Rattle.wq_worker.specs.Seats.{taking_of}
use Rattle.wq_worker.specs.Resting.{LeavesWork, owed, nothing}
use Rattle.wq_worker.specs.Works.{RunsNothing, no_event, a_take, a_rest, WorksInStepBy, keeps}
use Rattle.wq_worker.proofs.Seats.{adds_none}

pub nothing_taking : (h : List Event) → RunsNothing (taking h)
nothing_taking h = each (next_of h) (shut h)
  where
    each : (o : Option ℕ) (b : Bool) → RunsNothing (taking_of o b)
    each None false = a_take
    each None true = no_event
    each (Some k) b = no_event

pub nothing_rest : (rests : Bool) → RunsNothing (rest_events rests)
nothing_rest true = a_rest
nothing_rest false = no_event

module _ {W : Type 0} where
  pub moves_still : (a : WorkerState W) → IsLegal a.layout a.seen → Moves [] 0 a a
  moves_still a legal = record { queue = refl; layout = refl; number = refl; tries = refl; adds = adds_none a.number a.seen; legal = legal }

  module _ (may : W → ℕ → List ℕ → W → Type 0) (gives : W → W → Type 0) where
    pub works_still : (a : WorkerState W) → IsLegal a.layout a.seen → WorksInStepBy may gives a a
    works_still a legal = keeps [] no_event (moves_still a legal) (refl, refl)

    pub works_ready : (a b : WorkerState W) (r : Option ℕ) → IsLegal b.layout b.seen → MatchOption r (IsUnready a b) (λ k. IsReady a k b)
        → WorksInStepBy may gives a b
    works_ready a b (Some k) legal t = keeps (taking a.seen) (nothing_taking a.seen) t.moves t.work_is
    works_ready a b None legal (owed is same) = subst (λ (z : WorkerState W). WorksInStepBy may gives z b) same (works_still b legal)
    works_ready a b None legal (nothing waits idle moved left) = keeps (taking a.seen) (nothing_taking a.seen) moved left

    pub works_rest : (a b : WorkerState W) (rests : Bool) → Moves (rest_events rests) 0 a b → LeavesWork a b → WorksInStepBy may gives a b
    works_rest a b rests moved left = keeps (rest_events rests) (nothing_rest rests) moved left
