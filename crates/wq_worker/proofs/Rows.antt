-- A worker after steps in a row is the same worker, what it has seen is legal, and its queue is open where it was.
use Rattle.wq_worker.proofs.Common.{◌≡◌, ℕ, List, [], ◌∷◌, ◌++◌, sym, refl, ◌∙◌, ap, subst, arith, count_by, Event, End, Drain, Resume, IsClosed}
use Rattle.wq_worker.proofs.Common.{Some, running, IsShut, IsRunning, IsLegal, IsComplete, HasRunOut, count_by-append, Ran, Item, Barrier, Stop, Nothing, Owing, taking}
use Rattle.wq_worker.proofs.Common.{contended_of, WorkerState, Moves, stays, EndsBy, OwesBy, owes, RunsBy, RowBy, none, more, IsExecution, Shuts}
use Rattle.wq_worker.proofs.Common.{drains, Resumes, stays_closed, reopens, is_phase_change}
use Rattle.wq_worker.specs.State.{IsSameWorker}
use Rattle.wq_worker.specs.Step.{LeavesRunning, StartsBy, item, other, owed, ends, Runs}
use Rattle.wq_worker.specs.Rows.{Along, here, onward, GoesOn, RunsSomeBy, full, broken, RunsOutBy, Closes, was_closed, closes, was_shut}
use Rattle.wq_worker.proofs.Owned.{owner_grown, owner_of_both, quiet_stays}
use Rattle.wq_worker.proofs.Follow.{quiet_follows, quiet_contended}
use Rattle.wq_calls.proofs.Phases.{open_then}
use Rattle.wq_calls.proofs.PhaseKept.{SamePhase, phase_still, phase_on, open_still, unclosed_still, closed_still, shut_still}
use Rattle.wq_worker.proofs.State.{quiet_taking, phase_changes_taking}

module _ {X : Type 0} (step : X → X → Type 0) where
  pub one_step : (a b : X) → step a b → Along step a b
  one_step a b s = onward a a b (here a) s

  pub along_on : (a b c : X) → Along step a b → Along step b c → Along step a c
  along_on a b c p (here d) = p
  along_on a b c p (onward d e f q s) = onward a e f (along_on a d e p q) s

module _ {W : Type 0} where
  pub worker_still : (a : WorkerState W) → IsSameWorker a a
  worker_still a = record { queue_is = refl; layout_is = refl; number_is = refl; tries_is = refl }

  pub worker_on : (a b c : WorkerState W) → IsSameWorker a b → IsSameWorker b c → IsSameWorker a c
  worker_on a b c p q =
      record {
        queue_is = q.queue_is ∙ p.queue_is;
        layout_is = q.layout_is ∙ p.layout_is;
        number_is = q.number_is ∙ p.number_is;
        tries_is = q.tries_is
            ∙ p.tries_is;
      }

  pub moves_same : (xs : List Event) (n : ℕ) (a b : WorkerState W) → Moves xs n a b → IsSameWorker a b
  moves_same xs n a b m = record { queue_is = m.queue; layout_is = m.layout; number_is = m.number; tries_is = m.tries }

  no_step_same : (a b : WorkerState W) → b ≡ a → IsSameWorker a b
  no_step_same a b same =
      record { queue_is = λ i. (same i).queue; layout_is = λ i. (same i).layout; number_is = λ i. (same i).number; tries_is = λ i. (same i).tries }

  pub closes_same : (a b : WorkerState W) → Closes a b → IsSameWorker a b
  closes_same a b (was_closed is same) = no_step_same a b same
  closes_same a b (closes opens moved work left) = moves_same _ 0 a b moved

  pub shuts_same : (a b : WorkerState W) → Shuts a b → IsSameWorker a b
  shuts_same a b (was_shut is same) = no_step_same a b same
  shuts_same a b (drains opens moved work left) = moves_same _ 0 a b moved

  pub resumes_same : (a b : WorkerState W) → Resumes a b → IsSameWorker a b
  resumes_same a b (stays_closed is same) = no_step_same a b same
  resumes_same a b (reopens draining moved work left) = moves_same _ 0 a b moved

  -- a drain closes nothing, and a resume opens what is not closed
  pub shuts_unclosed : (a b : WorkerState W) → Shuts a b → ¬ IsClosed a.seen → ¬ IsClosed b.seen
  shuts_unclosed a b (was_shut is same) not = subst (λ (w : WorkerState W). ¬ IsClosed w.seen) (sym same) not
  shuts_unclosed a b (drains opens moved work left) not = λ closed.
      let o = owner_of_both a.number (Drain ∷ []) 0 a.seen b.seen moved.adds in not (omega (arith, closed, o.closes))

  pub resumes_unclosed : (a b : WorkerState W) → Resumes a b → ¬ IsClosed a.seen → ¬ IsClosed b.seen
  resumes_unclosed a b (stays_closed is same) not = absurd (not is)
  resumes_unclosed a b (reopens draining moved work left) not = λ closed.
      let o = owner_of_both a.number (Resume ∷ []) 0 a.seen b.seen moved.adds in not (omega (arith, closed, o.closes))

  pub resumes_open : (a b : WorkerState W) → Resumes a b → ¬ IsClosed a.seen → ¬ IsShut b.seen
  resumes_open a b (stays_closed is same) not = absurd (not is)
  resumes_open a b (reopens draining moved work left) not =
      open_then 0 a.seen b.seen (owner_grown a.number (Resume ∷ []) 0 a.seen b.seen moved.adds) not

  -- what a resume leaves is legal
  pub resumes_legal : (a b : WorkerState W) → IsLegal a.layout a.seen → Resumes a b → IsLegal b.layout b.seen
  resumes_legal a b legal (stays_closed is same) = subst (λ (w : WorkerState W). IsLegal w.layout w.seen) (sym same) legal
  resumes_legal a b legal (reopens draining moved work left) = moved.legal

module _ {W : Type 0} (may : W → ℕ → List ℕ → W → Type 0) (gives : W → W → Type 0) where
  ends_same : (k : ℕ) (a b : WorkerState W) → EndsBy may gives a k b → IsSameWorker a b
  ends_same k a b (ends f es fs st told moved rests) = moves_same _ 0 a b moved

  owes_same : (k : ℕ) (a b : WorkerState W) → OwesBy may gives a k b → IsSameWorker a b
  owes_same k a b (owes f qs j rest es fs st split small left opens told moved runs) = moves_same _ a.tries a b moved

  pub ends_idle : (k : ℕ) (a b : WorkerState W) → EndsBy may gives a k b → ¬ IsRunning b.seen
  ends_idle k a b (ends f es fs st told moved rests) = rests

  ends_legal : (k : ℕ) (a b : WorkerState W) → EndsBy may gives a k b → IsLegal b.layout b.seen
  ends_legal k a b (ends f es fs st told moved rests) = moved.legal

  owes_legal : (k : ℕ) (a b : WorkerState W) → OwesBy may gives a k b → IsLegal b.layout b.seen
  owes_legal k a b (owes f qs j rest es fs st split small left opens told moved runs) = moved.legal

  pub runs_by_same : (r : Ran) (a b : WorkerState W) → RunsBy may gives r a b → IsSameWorker a b
  runs_by_same (Item k) a b t = ends_same t.0 a b t.2
  runs_by_same (Barrier k) a b t = ends_same t.0 a b t.2
  runs_by_same Stop a b t = ends_same t.0 a b t.2
  runs_by_same Nothing a b t = moves_same _ 0 a b t.3
  runs_by_same (Owing k) a b t = owes_same k a b t

  owes_running : (k : ℕ) (a b : WorkerState W) → OwesBy may gives a k b → running b.seen ≡ Some k
  owes_running k a b (owes f qs j rest es fs st split small left opens told moved runs) = runs

  pub runs_by_running : (r : Ran) (a b : WorkerState W) → RunsBy may gives r a b → LeavesRunning r b.seen
  runs_by_running (Item k) a b t = ends_idle t.0 a b t.2
  runs_by_running (Barrier k) a b t = ends_idle t.0 a b t.2
  runs_by_running Stop a b t = ends_idle t.0 a b t.2
  runs_by_running Nothing a b t =
      let xs = taking a.seen in
      let s = quiet_stays xs a.seen b.seen (quiet_taking a.seen) (owner_of_both a.number xs 0 a.seen b.seen t.3.adds) in rw (s.begun_same, s.ended_same) t.0
  runs_by_running (Owing k) a b t = owes_running k a b t

  pub row_same : (P : Ran → Type 0) (n : ℕ) (a b : WorkerState W) → RowBy may gives P n a b → IsSameWorker a b
  row_same P n a b (none c) = worker_still c
  row_same P n a b (more m r c d e row passes run) = worker_on c d e (row_same P m c d row) (runs_by_same r d e run)

  pub runs_by_legal : (r : Ran) (a b : WorkerState W) → RunsBy may gives r a b → IsLegal b.layout b.seen
  runs_by_legal (Item k) a b t = ends_legal t.0 a b t.2
  runs_by_legal (Barrier k) a b t = ends_legal t.0 a b t.2
  runs_by_legal Stop a b t = ends_legal t.0 a b t.2
  runs_by_legal Nothing a b t = t.3.legal
  runs_by_legal (Owing k) a b t = owes_legal k a b t

  -- no step closes, drains or resumes
  starts_phase_changes_none : (a : WorkerState W) (k : ℕ) (f : List ℕ) (v : W) (es : List Event)
      → StartsBy may gives a k f v es → count_by is_phase_change es ≡ 0
  starts_phase_changes_none a k f v es (item idle low ran is) = ap (count_by is_phase_change) is ∙ phase_changes_taking a.seen k
  starts_phase_changes_none a k f v es (other idle high nothing same is) = ap (count_by is_phase_change) is ∙ phase_changes_taking a.seen k
  starts_phase_changes_none a k f v es (owed runs left same is) = ap (count_by is_phase_change) is

  ends_phase : (k : ℕ) (a b : WorkerState W) → EndsBy may gives a k b → SamePhase a.seen b.seen
  ends_phase k a b (ends f es fs st told moved rests) =
      (owner_of_both a.number (es ++ (fs ++ End k ∷ [])) 0 a.seen b.seen moved.adds).phase
      (omega (
        arith,
        starts_phase_changes_none a k f b.work es st,
        (quiet_follows a.layout.items a.number _ f fs told).phase_changes_none,
        count_by-append is_phase_change es (fs ++ End k ∷ []),
        count_by-append is_phase_change fs (End k ∷ []),
      ))

  owes_phase : (k : ℕ) (a b : WorkerState W) → OwesBy may gives a k b → SamePhase a.seen b.seen
  owes_phase k a b (owes f qs j rest es fs st split small left opens told moved runs) =
      let last = contended_of a.number j in
      (owner_of_both a.number (es ++ (fs ++ last)) a.tries a.seen b.seen moved.adds).phase
      (omega (
        arith,
        starts_phase_changes_none a k f b.work es st,
        (quiet_follows a.layout.items a.number _ qs fs told).phase_changes_none,
        (quiet_contended a.number j).phase_changes_none,
        count_by-append is_phase_change es (fs ++ last),
        count_by-append is_phase_change fs last,
      ))

  pub runs_by_phase : (r : Ran) (a b : WorkerState W) → RunsBy may gives r a b → SamePhase a.seen b.seen
  runs_by_phase (Item k) a b t = ends_phase t.0 a b t.2
  runs_by_phase (Barrier k) a b t = ends_phase t.0 a b t.2
  runs_by_phase Stop a b t = ends_phase t.0 a b t.2
  runs_by_phase Nothing a b t = (owner_of_both a.number (taking a.seen) 0 a.seen b.seen t.3.adds).phase (quiet_taking a.seen).phase_changes_none
  runs_by_phase (Owing k) a b t = owes_phase k a b t

  pub row_phase : (P : Ran → Type 0) (n : ℕ) (a b : WorkerState W) → RowBy may gives P n a b → SamePhase a.seen b.seen
  row_phase P n a b (none c) = phase_still c.seen
  row_phase P n a b (more m r c d e row passes run) = phase_on c.seen d.seen e.seen (row_phase P m c d row) (runs_by_phase r d e run)

  pub some_phase : (limit n : ℕ) (a c : WorkerState W) → RunsSomeBy may gives limit n a c → SamePhase a.seen c.seen
  some_phase limit n a c (full row is) = row_phase GoesOn n a c row
  some_phase limit n a c (broken m r b row low breaks run is) = phase_on a.seen b.seen c.seen (row_phase GoesOn m a b row) (runs_by_phase r b c run)

  -- where nothing is left a queue has run out
  pub ran_out : (limit left : ℕ) (a b : WorkerState W) → RunsOutBy may gives limit left a b → IsShut b.seen → left ≡ 0 → HasRunOut b.seen
  ran_out limit left a b r shut is = (shut, omega (arith, r.left_is, is))

  pub ran_complete : (limit left : ℕ) (a b : WorkerState W) → RunsOutBy may gives limit left a b → IsClosed a.seen → left ≡ 0 → IsComplete b.seen
  ran_complete limit left a b r closed is =
      (closed_still a.seen b.seen (row_phase IsExecution r.steps a b r.row) closed, omega (arith, r.left_is, is))

  -- an open queue stays open, and one that is not closed so
  pub runs_by_open : (r : Ran) (a b : WorkerState W) → RunsBy may gives r a b → ¬ IsShut a.seen → ¬ IsShut b.seen
  runs_by_open r a b t = open_still a.seen b.seen (runs_by_phase r a b t)

  pub runs_by_unclosed : (r : Ran) (a b : WorkerState W) → RunsBy may gives r a b → ¬ IsClosed a.seen → ¬ IsClosed b.seen
  runs_by_unclosed r a b t = unclosed_still a.seen b.seen (runs_by_phase r a b t)

  -- a closed queue stays closed, and one that is shut so
  pub runs_by_closed : (r : Ran) (a b : WorkerState W) → RunsBy may gives r a b → IsClosed a.seen → IsClosed b.seen
  runs_by_closed r a b t = closed_still a.seen b.seen (runs_by_phase r a b t)

  pub runs_by_shut : (r : Ran) (a b : WorkerState W) → RunsBy may gives r a b → IsShut a.seen → IsShut b.seen
  runs_by_shut r a b t = shut_still a.seen b.seen (runs_by_phase r a b t)

  pub some_closed : (limit n : ℕ) (a c : WorkerState W) → RunsSomeBy may gives limit n a c → IsClosed a.seen → IsClosed c.seen
  some_closed limit n a c t = closed_still a.seen c.seen (some_phase limit n a c t)

  pub some_shut : (limit n : ℕ) (a c : WorkerState W) → RunsSomeBy may gives limit n a c → IsShut a.seen → IsShut c.seen
  some_shut limit n a c t = shut_still a.seen c.seen (some_phase limit n a c t)

  pub row_open : (P : Ran → Type 0) (n : ℕ) (a b : WorkerState W) → RowBy may gives P n a b → ¬ IsShut a.seen → ¬ IsShut b.seen
  row_open P n a b row = open_still a.seen b.seen (row_phase P n a b row)

  pub row_unclosed : (P : Ran → Type 0) (n : ℕ) (a b : WorkerState W) → RowBy may gives P n a b → ¬ IsClosed a.seen → ¬ IsClosed b.seen
  row_unclosed P n a b row = unclosed_still a.seen b.seen (row_phase P n a b row)

-- where nothing is given back to the work
module _ {W : Type 0} (may : W → ℕ → List ℕ → W → Type 0) where
  pub runs_same : (r : Ran) (a b : WorkerState W) → Runs may r a b → IsSameWorker a b
  runs_same = runs_by_same may stays

  pub runs_phase : (r : Ran) (a b : WorkerState W) → Runs may r a b → SamePhase a.seen b.seen
  runs_phase = runs_by_phase may stays
