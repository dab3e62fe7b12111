-- What a worker's steps leave, one after another.
use Rattle.wq_worker.specs.Step.{StartsBy, item, other, owed as goes_on, EndsBy, ends, OwesBy, owes, RunsBy}
use Rattle.wq_worker.proofs.Follow.{quiet_contended, quiet_follows}
use Rattle.wq_worker.proofs.State.{quiet_taking, ended_taking}
use Rattle.wq_turn.proofs.Common.{◌≡◌, ℕ, ◌+◌, ◌≤◌, Bool, true, false, List, [], ◌∷◌, ◌++◌, length, Some, None, Option, sym, refl, ap, ◌∙◌, subst, add-zero}
use Rattle.wq_turn.proofs.Common.{arith, length-append, filter_map-append, Event, End, Rest, ended, IsRunning, ended_by, shut, next_of, Ran, Item, Barrier}
use Rattle.wq_turn.proofs.Common.{Stop, Nothing, Owing, ended_by_answer, WorkerState, Moves, contended_of, rest_events, IsUnready, owed, nothing, HasNoneLeft}
use Rattle.wq_turn.proofs.Common.{taking, Adds, taking_of, owner_of_both, LeavesExecutions, OwnerAdds, Pauses, limited, owed_before, WorksOn, StepRow, still, ready}
use Rattle.wq_turn.proofs.Common.{unready, run, rest, Finishes, rested, completed, worker_id}
use Rattle.wq_turn.specs.Steps.{owes as owes_one, EndsWithin, EndsJust}
use Rattle.wq_worker.proofs.Refused.{next_kept}
use Rattle.wq_turn.proofs.Moved.{works_keep}

-- no execution ends by these events
ended_more : (es v w : List Event) (n : ℕ) → length (ended es) ≡ n → OwnerAdds es v w → EndsJust n v w
ended_more es v w n is adds = ap (length {A = ℕ}) adds.ended_is ∙ (length-append (ended v) (ended es) ∙ ap (λ (k : ℕ). length (ended v) + k) is)

ended_quiet : (es : List Event) → LeavesExecutions es → length (ended es) ≡ 0
ended_quiet es quiet = ap (length {A = ℕ}) quiet.ended_none

quiet_rest : (rests : Bool) → length (ended (rest_events rests)) ≡ 0
quiet_rest true = refl
quiet_rest false = refl

module _ {W : Type 0} where
  moved_id : (es : List Event) (n : ℕ) (a b : WorkerState W) → Moves es n a b → worker_id b ≡ worker_id a
  moved_id es n a b m i = record { queue = m.queue i; layout = m.layout i; number = m.number i; tries = m.tries i }

  moved_ends : (es : List Event) (n m : ℕ) (a b : WorkerState W) → length (ended es) ≡ m → Moves es n a b → EndsJust m a.seen b.seen
  moved_ends es n m a b is moved = ended_more es a.seen b.seen m is (owner_of_both a.number es n a.seen b.seen moved.adds)

  unready_ends : (a b : WorkerState W) → IsUnready a b → EndsJust 0 a.seen b.seen
  unready_ends a b (owed runs same) = ap (λ (w : WorkerState W). length (ended w.seen)) same ∙ sym (add-zero (length (ended a.seen)))
  unready_ends a b (nothing waited none moved left) = moved_ends (taking a.seen) 0 0 a b (ended_quiet (taking a.seen) (quiet_taking a.seen)) moved

  module _ (may : W → ℕ → List ℕ → W → Type 0) (gives : W → W → Type 0) where
    starts_ended : (a : WorkerState W) (k : ℕ) (f : List ℕ) (v : W) (es : List Event) → StartsBy may gives a k f v es → ended es ≡ []
    starts_ended a k f v es (item idle low may_be is) = ap ended is ∙ ended_taking a.seen k
    starts_ended a k f v es (other idle high none same is) = ap ended is ∙ ended_taking a.seen k
    starts_ended a k f v es (goes_on runs left same is) = ap ended is

    ended_parts : (es fs gs : List Event) → ended es ≡ [] → ended fs ≡ [] → length (ended (es ++ (fs ++ gs))) ≡ length (ended gs)
    ended_parts es fs gs none_es none_fs =
        ap (length {A = ℕ})
        (filter_map-append ended_by es (fs ++ gs)
        ∙ (ap (λ (z : List ℕ). z ++ ended (fs ++ gs)) none_es ∙ (filter_map-append ended_by fs gs ∙ ap (λ (z : List ℕ). z ++ ended gs) none_fs)))

    execution_ends : (k : ℕ) (a b : WorkerState W) → EndsBy may gives a k b → EndsJust 1 a.seen b.seen
    execution_ends k a b (ends f es fs starts told moved idle) =
        moved_ends (es ++ (fs ++ End k ∷ [])) 0 1 a b
        (ended_parts es fs (End k ∷ []) (starts_ended a k f b.work es starts)
        (quiet_follows a.layout.items a.number (shut a.seen) f fs told).ended_none) moved

    owing_ends : (k : ℕ) (a b : WorkerState W) → OwesBy may gives a k b → EndsJust 0 a.seen b.seen
    owing_ends k a b (owes f qs j more es fs starts split small left opens told moved runs) =
        moved_ends (es ++ (fs ++ contended_of a.number j)) a.tries 0 a b
        (ended_parts es fs (contended_of a.number j) (starts_ended a k f b.work es starts)
        (quiet_follows a.layout.items a.number (shut a.seen) qs fs told).ended_none
        ∙ ended_quiet (contended_of a.number j) (quiet_contended a.number j)) moved

    runs_ends : (r : Ran) (a b : WorkerState W) → RunsBy may gives r a b → EndsJust (ended_by_answer r) a.seen b.seen
    runs_ends (Item k) a b t = execution_ends t.0 a b t.2
    runs_ends (Barrier k) a b t = execution_ends t.0 a b t.2
    runs_ends Stop a b t = execution_ends t.0 a b t.2
    runs_ends Nothing a b t = moved_ends (taking a.seen) 0 0 a b (ended_quiet (taking a.seen) (quiet_taking a.seen)) t.3
    runs_ends (Owing k) a b t = owing_ends k a b t

    pub steps_ended : (n : ℕ) (a b : WorkerState W) → StepRow may gives n a b → EndsJust n a.seen b.seen
    steps_ended n a b (still c) = sym (add-zero (length (ended c.seen)))
    steps_ended n a b (ready m k c d e steps step) =
        omega (arith, steps_ended m c d steps, moved_ends (taking d.seen) 0 0 d e (ended_quiet (taking d.seen) (quiet_taking d.seen)) step.moves)
    steps_ended n a b (unready m c d e steps step) = omega (arith, steps_ended m c d steps, unready_ends d e step)
    steps_ended n a b (run m r c d e steps step) = omega (arith, steps_ended m c d steps, runs_ends r d e step)
    steps_ended n a b (rest m rests c d e steps left step) =
        omega (arith, steps_ended m c d steps, moved_ends (rest_events rests) 0 0 d e (quiet_rest rests) step)

    pub steps_on : (n m : ℕ) (a b c : WorkerState W) → StepRow may gives n a b → StepRow may gives m b c → StepRow may gives (n + m) a c
    steps_on n m a b c first (still d) = subst (λ (k : ℕ). StepRow may gives k a d) (sym (add-zero n)) first
    steps_on n m a b c first (ready i k d e f steps step) = ready (n + i) k a e f (steps_on n i a d e first steps) step
    steps_on n m a b c first (unready i d e f steps step) = unready (n + i) a e f (steps_on n i a d e first steps) step
    steps_on n m a b c first (run i r d e f steps step) =
        let same : (n + i) + ended_by_answer r ≡ n + (i + ended_by_answer r) = omega arith in
        subst (λ (k : ℕ). StepRow may gives k a f) same (run (n + i) r a e f (steps_on n i a d e first steps) step)
    steps_on n m a b c first (rest i rests d e f steps left step) = rest (n + i) rests a e f (steps_on n i a d e first steps) left step

    pub finishes_on : (limit n : ℕ) (a b c : WorkerState W) → n ≤ limit → StepRow may gives n a b → Finishes may gives 0 b c → Finishes may gives limit a c
    finishes_on limit n a b c low first (rested m d none steps left step) =
        rested (n + m) d (omega (arith, low, none)) (steps_on n m a b d first steps) left step
    finishes_on limit n a b c low first (completed m none steps done) = completed (n + m) (omega (arith, low, none)) (steps_on n m a b c first steps) done

    pub finishes_ended : (limit : ℕ) (a c : WorkerState W) → Finishes may gives limit a c → EndsWithin limit a.seen c.seen
    finishes_ended limit a c (rested n b low steps left step) =
        omega (arith, low, steps_ended n a b steps, moved_ends (Rest ∷ []) 0 0 b c refl step)
    finishes_ended limit a c (completed n low steps done) = omega (arith, low, steps_ended n a c steps)

    pauses_ended : (limit : ℕ) (a c : WorkerState W) → Pauses may gives limit a c → EndsWithin limit a.seen c.seen
    pauses_ended limit a c (limited k steps just idle next) = omega (arith, just)
    pauses_ended limit a c (owes_one n k b low steps step) = omega (arith, low, steps_ended n a b steps, owing_ends k b c step)
    pauses_ended limit a c (owed_before none runs same) = omega (arith, ap (λ (w : WorkerState W). length (ended w.seen)) same)

    pub works_ended : (limit : ℕ) (done : Bool) (a c : WorkerState W) → WorksOn may gives limit done a c → EndsWithin limit a.seen c.seen
    works_ended limit true a c t = finishes_ended limit a c t.0
    works_ended limit false a c t = pauses_ended limit a c t

    pub works_id : (limit : ℕ) (done : Bool) (a c : WorkerState W) → WorksOn may gives limit done a c → worker_id c ≡ worker_id a
    works_id limit done a c t =
        works_keep (λ w. worker_id w ≡ worker_id a) (λ es n b d moved same. moved_id es n b d moved ∙ same) may gives limit done a c t refl

    pub works_finishes : (limit : ℕ) (done : Bool) (a c : WorkerState W) → done ≡ true → WorksOn may gives limit done a c
        → Finishes may gives limit a c × (¬ IsRunning c.seen)
    works_finishes limit done a c is t = subst (λ (b : Bool). WorksOn may gives limit b a c) is t

    pub works_pauses : (limit : ℕ) (done : Bool) (a c : WorkerState W) → done ≡ false → WorksOn may gives limit done a c → Pauses may gives limit a c
    works_pauses limit done a c is t = subst (λ (b : Bool). WorksOn may gives limit b a c) is t

    -- where something is left, a worker does not find nothing
    pub something_runs : (a b : WorkerState W) → ¬ HasNoneLeft a.seen → RunsBy may gives Nothing a b → HasNoneLeft b.seen → ⊥
    something_runs a b some t none = go (next_of a.seen) refl
      where
        go : (o : Option ℕ) → next_of a.seen ≡ o → ⊥
        go None is = some (t.0, is)
        go (Some k) is =
            let quiet : taking a.seen ≡ [] = ap (λ (o : Option ℕ). taking_of o (shut a.seen)) is in
            let adds : Adds a.number [] 0 a.seen b.seen = subst (λ (es : List Event). Adds a.number es 0 a.seen b.seen) quiet t.3.adds in
            let same = next_kept b.layout a.number 0 a.seen b.seen adds t.3.legal in absurd (cc (same, is, none.1))
