-- What a worker that settles, executes or works on leaves.
use Rattle.wq_words.proofs.Running.{runs_from_running as runs_some}
use Rattle.wq_worker.specs.Step.{owes as owe, RunsBy}
use Rattle.wq_turn.proofs.Common.{◌≡◌, ℕ, ◌+◌, ◌<◌, ◌≤◌, Bool, true, false, List, [], Some, None, Option, MatchOption, refl, ap, ◌∙◌, subst, add-zero, arith}
use Rattle.wq_turn.proofs.Common.{Layout, IsShut, IsRunning, closed, IsLegal, IsClosed_from_closed, MayNotRest, Ran, Item, Barrier, Stop, Nothing, Owing}
use Rattle.wq_turn.proofs.Common.{IsExecution, ended_by_answer, WorkerState, Moves, rest_events, IsReady, IsUnready, owed, nothing, HasNoneLeft, LeavesWork}
use Rattle.wq_turn.proofs.Common.{taking, Adds, NothingWaits, Ended, Owed, Done, limited, owes, WorksOn, StepRow, still, ready, unready, run, rest, Finishes}
use Rattle.wq_turn.proofs.Common.{rested, completed, IsDue, SettlesOne, RunsOne, MakesProgress}
use Rattle.wq_turn.specs.declared.runner.Progress.{Progress}
use Rattle.wq_worker.proofs.Refused.{refused_waits, none_left_complete}
use Rattle.wq_turn.proofs.Steps.{steps_on, steps_ended, finishes_on}
use Rattle.wq_worker.proofs.Rows.{ends_idle}

module _ {W : Type 0} (may : W → ℕ → List ℕ → W → Type 0) (gives : W → W → Type 0) where
  one_ended : (r : Ran) → IsExecution r → ended_by_answer r ≡ 1
  one_ended (Item k) is = refl
  one_ended (Barrier k) is = refl
  one_ended Stop is = refl
  one_ended Nothing is = absurd is
  one_ended (Owing k) is = absurd is

  pub executed : (r : Ran) (a b : WorkerState W) → IsExecution r → RunsBy may gives r a b → RunsOne may gives Ended a b
  executed (Item k) a b is t = (Item k, is, t, ends_idle may gives t.0 a b t.2)
  executed (Barrier k) a b is t = (Barrier k, is, t, ends_idle may gives t.0 a b t.2)
  executed Stop a b is t = (Stop, is, t, ends_idle may gives t.0 a b t.2)
  executed Nothing a b is t = absurd is
  executed (Owing k) a b is t = absurd is

  pub owing_runs : (k : ℕ) (a b : WorkerState W) → RunsBy may gives (Owing k) a b → IsRunning b.seen
  owing_runs k a b (owe f qs j more es fs starts split small left opens told moved runs) = runs_some b.seen k runs

  pub was_ready : (a b : WorkerState W) (k : ℕ) → IsReady a k b → IsDue may gives a k b
  was_ready a b k r = record { steps = ready 0 k a a b (still a) r; idle = r.idle; next_is = r.next_is }

  pub was_unready : (a b : WorkerState W) → ¬ IsRunning a.seen → IsUnready a b → NothingWaits b.seen × HasNoneLeft b.seen
  was_unready a b idle (owed runs same) = absurd (idle runs)
  was_unready a b idle (nothing waits none moved left) = (waits, none)

  settled_on : (r : Option ℕ) (a b c : WorkerState W) → StepRow may gives 0 a b → SettlesOne may gives r b c → SettlesOne may gives r a c
  settled_on None a b c steps t = (finishes_on may gives 0 0 a b c (omega arith) steps t.0, t.1)
  settled_on (Some k) a b c steps t = record { steps = steps_on may gives 0 0 a b c steps t.steps; idle = t.idle; next_is = t.next_is }

  -- a worker that was not ready settles
  pub settled_unready : (r : Option ℕ) (a b c : WorkerState W) → IsUnready a b → SettlesOne may gives r b c → SettlesOne may gives r a c
  settled_unready r a b c is t = settled_on r a b c (unready 0 a a b (still a) is) t

  pub settled_closed : (a : WorkerState W) → IsLegal a.layout a.seen → closed a.seen ≡ true → HasNoneLeft a.seen → SettlesOne may gives None a a
  settled_closed a legal is none =
      (completed 0 (omega arith) (still a) (none_left_complete a.layout a.seen legal (IsClosed_from_closed a.seen is) none), none.0)

  pub settled_rested : (rests : Bool) (a b : WorkerState W) → rests ≡ true → LeavesWork a b → Moves (rest_events rests) 0 a b → HasNoneLeft b.seen
      → SettlesOne may gives None a b
  settled_rested rests a b is left moved none =
      (rested 0 a (omega arith) (still a) left (subst (λ (z : Bool). Moves (rest_events z) 0 a b) is moved), none.0)

  -- a rest was refused, and the worker got ready
  pub settled_refused : (rests : Bool) (r : Option ℕ) (a b c : WorkerState W) → rests ≡ false → NothingWaits a.seen → LeavesWork a b
      → Moves (rest_events rests) 0 a b → ¬ IsShut b.seen → HasNoneLeft b.seen → MayNotRest b.seen
      → MatchOption r (IsUnready b c) (λ k. IsReady b k c) → SettlesOne may gives r a c
  settled_refused rests (Some k) a b c is waits left moved opens none why step =
      record { steps = ready 0 k a b c (rest 0 rests a a b (still a) left moved) step; idle = step.idle; next_is = step.next_is }
  settled_refused rests None a b c is waits left moved opens none why (owed runs same) = absurd (none.0 runs)
  settled_refused rests None a b c is waits left moved opens none why (nothing waits' none' moved' left') =
      let quiet : Moves [] 0 a b = subst (λ (z : Bool). Moves (rest_events z) 0 a b) is moved in
      let more : Adds a.number (taking b.seen) 0 b.seen c.seen = subst (λ (s : ℕ). Adds s (taking b.seen) 0 b.seen c.seen) quiet.number moved'.adds in
      let later : IsLegal b.layout c.seen = subst (λ (l : Layout). IsLegal l c.seen) moved'.layout moved'.legal in
      absurd (refused_waits b.layout a.number a.seen b.seen c.seen waits quiet.adds why quiet.legal opens none.1 more later none'.1)

  -- an execution after steps by which none ended
  pub advanced : (p : Progress) (a b c : WorkerState W) → StepRow may gives 0 a b → RunsOne may gives p b c → MakesProgress may gives p a c
  advanced Ended a b c steps t =
      let one : 0 + ended_by_answer t.0 ≡ 1 = ap (λ (n : ℕ). 0 + n) (one_ended t.0 t.1) in
      (subst (λ (n : ℕ). StepRow may gives n a c) one (run 0 t.0 a b c steps t.2), t.3)
  advanced Owed a b c steps t = (t.0, b, steps, t.1)
  advanced Done a b c steps t = absurd t

  pub works_owed : (limit n : ℕ) (a b c : WorkerState W) → n < limit → StepRow may gives n a b → MakesProgress may gives Owed b c
      → WorksOn may gives limit false a c
  works_owed limit n a b c low steps t = owes (n + 0) t.0 t.1 (omega (arith, low)) (steps_on may gives n 0 a b t.1 steps t.2) t.3

  pub works_done : (limit n : ℕ) (a b c : WorkerState W) → n ≤ limit → StepRow may gives n a b → Finishes may gives 0 b c × (¬ IsRunning c.seen)
      → WorksOn may gives limit true a c
  works_done limit n a b c low steps t = (finishes_on may gives limit n a b c low steps t.0, t.1)

  pub works_due : (limit n : ℕ) (a b c : WorkerState W) (k : ℕ) → n ≡ limit → StepRow may gives n a b → IsDue may gives b k c
      → WorksOn may gives limit false a c
  works_due limit n a b c k is steps t =
      let all : StepRow may gives limit a c = subst (λ (m : ℕ). StepRow may gives m a c) (add-zero n ∙ is) (steps_on may gives n 0 a b c steps t.steps) in
      limited k all (steps_ended may gives limit a c all) t.idle t.next_is
