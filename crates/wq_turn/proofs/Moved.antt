-- What a worker keeps by each step it keeps by all.
use Rattle.wq_words.specs.Numbers.{stop_number}
use Rattle.wq_worker.specs.Step.{EndsBy, ends, OwesBy, owes as owes_one, RunsBy}
use Rattle.wq_worker.proofs.Rows.{runs_by_same}
use Rattle.wq_turn.proofs.Common.{◌≡◌, ℕ, Bool, true, false, ◌⊎◌, List, [], ◌∷◌, ◌++◌, Some, None, Contains, Option, MatchOption, sym, ap, ◌∙◌, subst, ⊎_elim}
use Rattle.wq_turn.proofs.Common.{Contains-append_left, Contains-append_right, Contains-push, filter_map-append, Event, End, Rest, Layout, ended, ended_by}
use Rattle.wq_turn.proofs.Common.{Ran, Item, Barrier, Stop, Nothing, Owing, WorkerState, Moves, contended_of, rest_events, IsReady, IsUnready, owed, nothing}
use Rattle.wq_turn.proofs.Common.{taking, owner_of_both, Pauses, limited, owes, owed_before, WorksOn, StepRow, still, ready, unready, run, rest, Finishes}
use Rattle.wq_turn.proofs.Common.{rested, completed, HasSeenStop, IsNoted}
use Rattle.wq_turn.specs.declared.noted.StopItem.{StopItem}

-- what each addition of events keeps
module _ {W : Type 0} (P : WorkerState W → Type 0) (on : (es : List Event) (n : ℕ) (a b : WorkerState W) → Moves es n a b → P a → P b) where
  unready_keeps : (a b : WorkerState W) → IsUnready a b → P a → P b
  unready_keeps a b (owed runs same) p = subst P (sym same) p
  unready_keeps a b (nothing waited none moved left) p = on (taking a.seen) 0 a b moved p

  pub ready_keeps : (r : Option ℕ) (a b : WorkerState W) → MatchOption r (IsUnready a b) (λ k. IsReady a k b) → P a → P b
  ready_keeps None a b step p = unready_keeps a b step p
  ready_keeps (Some k) a b step p = on (taking a.seen) 0 a b step.moves p

  module _ (may : W → ℕ → List ℕ → W → Type 0) (gives : W → W → Type 0) where
    ends_keeps : (k : ℕ) (a b : WorkerState W) → EndsBy may gives a k b → P a → P b
    ends_keeps k a b (ends f es fs starts told moved idle) p = on (es ++ (fs ++ End k ∷ [])) 0 a b moved p

    owing_keeps : (k : ℕ) (a b : WorkerState W) → OwesBy may gives a k b → P a → P b
    owing_keeps k a b (owes_one f qs j more es fs starts split small left opens told moved runs) p =
        on (es ++ (fs ++ contended_of a.number j)) a.tries a b moved p

    pub runs_keeps : (r : Ran) (a b : WorkerState W) → RunsBy may gives r a b → P a → P b
    runs_keeps (Item k) a b t p = ends_keeps t.0 a b t.2 p
    runs_keeps (Barrier k) a b t p = ends_keeps t.0 a b t.2 p
    runs_keeps Stop a b t p = ends_keeps t.0 a b t.2 p
    runs_keeps Nothing a b t p = on (taking a.seen) 0 a b t.3 p
    runs_keeps (Owing k) a b t p = owing_keeps k a b t p

    pub steps_keep : (n : ℕ) (a b : WorkerState W) → StepRow may gives n a b → P a → P b
    steps_keep n a b (still c) p = p
    steps_keep n a b (ready m k c d e steps step) p = on (taking d.seen) 0 d e step.moves (steps_keep m c d steps p)
    steps_keep n a b (unready m c d e steps step) p = unready_keeps d e step (steps_keep m c d steps p)
    steps_keep n a b (run m r c d e steps step) p = runs_keeps r d e step (steps_keep m c d steps p)
    steps_keep n a b (rest m rests c d e steps left step) p = on (rest_events rests) 0 d e step (steps_keep m c d steps p)

    finishes_keeps : (limit : ℕ) (a c : WorkerState W) → Finishes may gives limit a c → P a → P c
    finishes_keeps limit a c (rested n b low steps left step) p = on (Rest ∷ []) 0 b c step (steps_keep n a b steps p)
    finishes_keeps limit a c (completed n low steps done) p = steps_keep n a c steps p

    pauses_keeps : (limit : ℕ) (a c : WorkerState W) → Pauses may gives limit a c → P a → P c
    pauses_keeps limit a c (limited k steps just idle next) p = steps_keep limit a c steps p
    pauses_keeps limit a c (owes n k b low steps step) p = owing_keeps k b c step (steps_keep n a b steps p)
    pauses_keeps limit a c (owed_before none runs same) p = subst P (sym same) p

    pub works_keep : (limit : ℕ) (done : Bool) (a c : WorkerState W) → WorksOn may gives limit done a c → P a → P c
    works_keep limit true a c t p = finishes_keeps limit a c t.0 p
    works_keep limit false a c t p = pauses_keeps limit a c t p

module _ {W : Type 0} where
  pub noted_moved : (s : StopItem) (es : List Event) (n : ℕ) (a b : WorkerState W) → Moves es n a b → IsNoted s a → IsNoted s b
  noted_moved s es n a b moved noted = λ has.
      let adds = owner_of_both a.number es n a.seen b.seen moved.adds in
      subst (λ (z : List ℕ × Layout). Contains z.0 (stop_number z.1)) (λ i. (sym adds.ended_is i, sym moved.layout i))
      (Contains-append_left (ended a.seen) (ended es) (stop_number a.layout) (noted has))

  module _ (may : W → ℕ → List ℕ → W → Type 0) (gives : W → W → Type 0) where
    -- the number whose execution ended is among those that have
    ends_last : (k : ℕ) (a b : WorkerState W) → EndsBy may gives a k b → Contains (ended b.seen) k
    ends_last k a b (ends f es fs starts told moved idle) =
        let adds = owner_of_both a.number (es ++ (fs ++ End k ∷ [])) 0 a.seen b.seen moved.adds in
        let new_is : ended (es ++ (fs ++ End k ∷ [])) ≡ ended es ++ (ended fs ++ k ∷ []) =
        filter_map-append ended_by es (fs ++ End k ∷ []) ∙ ap (λ (z : List ℕ). ended es ++ z) (filter_map-append ended_by fs (End k ∷ [])) in
        subst (λ (z : List ℕ). Contains z k) (sym (adds.ended_is ∙ ap (λ (z : List ℕ). ended a.seen ++ z) new_is))
        (Contains-append_right (ended a.seen) (ended es ++ (ended fs ++ k ∷ [])) k
        (Contains-append_right (ended es) (ended fs ++ k ∷ []) k (Contains-push (ended fs) k)))

    -- the stop item was noted before, or it is what ran
    pub noted_run : (r : Ran) (s s' : StopItem) (a b : WorkerState W) → RunsBy may gives r a b → (HasSeenStop s' → HasSeenStop s ⊎ (r ≡ Stop)) → IsNoted s a
        → IsNoted s' b
    noted_run r s s' a b t told noted = λ has.
        ⊎_elim (λ (before : HasSeenStop s). runs_keeps (λ w. IsNoted s w) (noted_moved s) may gives r a b t noted before)
        (λ (is : r ≡ Stop). stops (runs_by_same may gives r a b t).layout_is (subst (λ (z : Ran). RunsBy may gives z a b) is t)) (told has)
      where
        stops : b.layout ≡ a.layout → RunsBy may gives Stop a b → Contains (ended b.seen) (stop_number b.layout)
        stops same t = subst (λ (k : ℕ). Contains (ended b.seen) k) (t.1 ∙ ap stop_number (sym same)) (ends_last t.0 a b t.2)
