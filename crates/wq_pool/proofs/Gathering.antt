-- One queue more in hand, and one more taken apart.
use Rattle.std.specs.List.{slice_get}
use Rattle.std.specs.Prelude.{get_or}
use Rattle.std.proofs.lemmas.Option.{none-some, slice_get_cases, get_or_from_slice_get}
use Rattle.wq_words.proofs.Growing.{take_more_some, slice_get_push, slice_get_last, slice_get_append}
use Rattle.wq_ledger.specs.Book.{BookState}
use Rattle.wq_turn.specs.Finished.{IsFinishedBy}
use Rattle.wq_turn.proofs.Draining.{left_complete}
use Rattle.wq_pool.proofs.Common.{◌≡◌, ℕ, zero, suc, ◌+◌, ◌<◌, List, [], ◌∷◌, ◌++◌, map, length, take, Some, None, All, Option, sym, refl, ap}
use Rattle.wq_pool.proofs.Common.{◌∙◌, subst, arith, length-append, map-append, All-push, IsComplete, WorkerId, IsDrained, SlotsState, TurnState, turn_id}
use Rattle.wq_pool.proofs.Common.{WorkerState, AreFirst, AreComplete, LeavesOf, FirstLeft, AreFinishedBy, RanToEndBy, IsWorkerAt}
use Rattle.wq_pool.proofs.Common.{inl, inr, WasDrainedAt, WereDrained, FirstWereDrained, ComeFromDrains, AreTakenApart, ArePartsOf, HasEndedAt}
use Rattle.wq_pool.proofs.Common.{GoesOnAt, BeginAsHandedIn}
use mathlib.Core.List.{IsPrefix}
use Rattle.wq_words.specs.declared.event.Event.{Event}
use Rattle.wq_turn.specs.Steps.{EndsJust}

module _ {K W : Type 0} (state : K → WorkerState W) (deals : K → K → Type 0) where
  pub first_more : (slots : SlotsState K) (turns new : List (TurnState K)) (t : TurnState K) → AreFirst state deals slots turns
      → length turns < length slots.workers → t.slots ≡ slots.id → IsWorkerAt state slots.workers (length turns) t.worker
      → GoesOnAt state deals slots.states (length turns) t.worker → new ≡ turns ++ t ∷ [] → AreFirst state deals slots new
  first_more slots turns new t first low here worker_is on is =
      let n = length turns in
      let long : length (turns ++ t ∷ []) ≡ n + 1 = length-append turns (t ∷ []) in
      subst (AreFirst state deals slots) (sym is) record {
        few = omega (arith, long, low);
        slots_are = All-push (λ (u : TurnState K). u.slots ≡ slots.id) turns t first.slots_are here;
        workers_are = map-append (turn_id state) turns (t ∷ [])
            ∙ (ap (λ (ids : List WorkerId). ids ++ turn_id state t ∷ []) first.workers_are
            ∙ (sym (take_more_some slots.workers n (turn_id state t) worker_is) ∙ ap (λ (k : ℕ). take k slots.workers) (sym long)));
        go_on = λ q u at. elim (slice_get_push turns t u q at) [
          | inl old ↦ first.go_on q u old
          | inr last ↦ subst (λ (z : ℕ × TurnState K). GoesOnAt state deals slots.states z.0 z.1.worker) (λ i. (sym last.0 i, last.1 i)) on
        ];
      }

module _ {K W : Type 0} (state : K → WorkerState W) (may : W → ℕ → List ℕ → W → Type 0) (gives : W → W → Type 0) (deals : K → K → Type 0)
    (limit : ℕ) where
  abbrev Drained : List WorkerId → List K → ℕ → K → Type 0
  Drained = WasDrainedAt state may gives deals limit

  abbrev AllDrained : List WorkerId → List K → List (TurnState K) → Type 0
  AllDrained = WereDrained state may gives deals limit

  -- the turn at each place below their count
  turn_at : (turns : List (TurnState K)) (q : ℕ) → q < length turns → (t : TurnState K) × (slice_get turns q ≡ Some t)
  turn_at turns q low = elim ((slice_get_cases turns q).1) [ inl found ↦ (found.0, found.2) | inr past ↦ absurd (omega (arith, past.0, low)) ]

  pub first_drained : (workers : List WorkerId) (states : List K) (turns : List (TurnState K)) (count : ℕ) → AllDrained workers states turns
      → count ≡ length turns → FirstWereDrained state may gives deals limit workers states count
  first_drained workers states turns count all is q low = let t = turn_at turns q (omega (arith, is, low)) in (t.0.worker, all q t.0 t.1)

  pub drained_more : (workers : List WorkerId) (states : List K) (turns new : List (TurnState K)) (t : TurnState K) → AllDrained workers states turns
      → Drained workers states (length turns) t.worker → new ≡ turns ++ t ∷ [] → AllDrained workers states new
  drained_more workers states turns new t all one is q u at =
      elim (slice_get_push turns t u q (sym (ap (λ (ts : List (TurnState K)). slice_get ts q) is) ∙ at)) [
        | inl old ↦ all q u old
        | inr here ↦ subst (λ (z : ℕ × TurnState K). Drained workers states z.0 z.1.worker) (λ i. (sym here.0 i, here.1 i)) one
      ]

  -- of each queue that is in hand, where nothing is left of them
  ended_at : (workers : List WorkerId) (states : List K) (turns : List (TurnState K)) → AllDrained workers states turns → AreComplete state turns
      → (p : ℕ) → p < length turns → HasEndedAt state may gives deals limit workers states p
  ended_at workers states turns all done p low =
      let t = turn_at turns p low in
      let same : get_or turns p t.0 ≡ t.0 = get_or_from_slice_get turns p t.0 t.0 t.1 in
      (t.0.worker, all p t.0 t.1, subst (λ (u : TurnState K). IsComplete (state u.worker).seen) same (done p t.0 low))

  abbrev Leaves : List WorkerId → List K → List (TurnState K) → Option (ℕ × ℕ) → Type 0
  Leaves = LeavesOf state may gives deals limit

  -- something is left of the queue, or nothing is
  pub left_more : (workers : List WorkerId) (states : List K) (left left' : Option (ℕ × ℕ)) (turns new : List (TurnState K)) (t : TurnState K)
      (more : ℕ) → AllDrained workers states turns → Leaves workers states turns left → FirstLeft left (length turns) more left'
      → (drained : Drained workers states (length turns) t.worker) → IsDrained more (state t.worker)
      → (0 < more → EndsJust limit (state drained.start).seen (state t.worker).seen) → new ≡ turns ++ t ∷ [] → Leaves workers states new left'
  left_more workers states (Some one) left' turns new t more all old told drained leaves just is =
      subst (λ (z : List (TurnState K) × Option (ℕ × ℕ)). Leaves workers states z.0 z.1) (λ i. (sym is i, sym told i))
      (old.0, slice_get_append turns (t ∷ []) one.0 old.0 old.1, old.2)
  left_more workers states None left' turns new t zero all old told drained leaves just is =
      subst (λ (z : List (TurnState K) × Option (ℕ × ℕ)). Leaves workers states z.0 z.1) (λ i. (sym is i, sym told i))
      (All-push (λ (u : TurnState K). IsComplete (state u.worker).seen) turns t old (left_complete (state t.worker) leaves))
  left_more workers states None left' turns new t (suc more) all old told drained leaves just is =
      subst (λ (z : List (TurnState K) × Option (ℕ × ℕ)). Leaves workers states z.0 z.1) (λ i. (sym is i, sym told i)) (
        t,
        slice_get_last turns t [],
        record {
          drained = drained;
          left_is = leaves;
          some_left = omega arith;
          executed = just (omega arith);
          before = ended_at workers states turns all old;
        },
      )

  -- what was taken apart is of the workers that were drained
  pub parts_drained : {B : Type 0} (book : B → BookState) (has_brought : K → B → Type 0) (workers : List WorkerId) (states : List K)
      (turns : List (TurnState K)) (parts : List (W × B)) → AllDrained workers states turns → AreTakenApart state book has_brought turns parts
      → ComeFromDrains state may gives deals limit book has_brought workers states parts
  parts_drained book has_brought workers states turns parts all apart q one at =
      let t = apart q one at in (t.0.worker, all q t.0 t.1, t.2)

module _ {K W B : Type 0} (state : K → WorkerState W) (deals : K → K → Type 0) (book : B → BookState) (has_brought : K → B → Type 0) where
  -- what is taken apart goes on from what was handed in
  pub parts_go_on : (slots : SlotsState K) (turns : List (TurnState K)) (parts : List (W × B)) → AreFirst state deals slots turns
      → AreTakenApart state book has_brought turns parts → BeginAsHandedIn state deals book has_brought slots.states parts
  parts_go_on slots turns parts first apart q one at =
      let t = apart q one at in let on = first.go_on q t.0 t.1 in (
        on.old,
        on.old_is,
        record {
          begins = subst (λ (h : List Event). IsPrefix (state on.old).seen h) (sym t.2.book_is.2) on.begins;
          last = t.0.worker;
          along = on.along;
          parts_of_last = t.2;
        },
      )

module _ {K W B : Type 0} (state : K → WorkerState W) (book : B → BookState) (has_brought : K → B → Type 0) where
  pub parts_none : (turns : List (TurnState K)) (parts : List (W × B)) → parts ≡ [] → AreTakenApart state book has_brought turns parts
  parts_none turns parts is q one at =
      absurd (none-some one (sym (ap (λ (ps : List (W × B)). slice_get ps q) is) ∙ at))

  pub parts_next : (turns : List (TurnState K)) (t : TurnState K) (parts new : List (W × B)) (one : W × B) → AreTakenApart state book has_brought turns parts
      → length parts ≡ length turns → ArePartsOf state book has_brought t.worker one → new ≡ parts ++ one ∷ []
      → AreTakenApart state book has_brought (turns ++ t ∷ []) new
  parts_next turns t parts new one all same is new_is q other at =
      elim (slice_get_push parts one other q (sym (ap (λ (ps : List (W × B)). slice_get ps q) new_is) ∙ at)) [
        | inl old ↦ let u = all q other old in (u.0, slice_get_append turns (t ∷ []) q u.0 u.1, u.2)
        | inr here ↦ (
          t,
          subst (λ (p : ℕ). slice_get (turns ++ t ∷ []) p ≡ Some t) (sym (here.0 ∙ same)) (slice_get_last turns t []),
          subst (λ (p : W × B). ArePartsOf state book has_brought t.worker p) here.1 is,
        )
      ]

module _ {W B : Type 0} (book : B → BookState) (has_run : W → B → Type 0) where
  abbrev AreDone : List WorkerId → List (W × B) → Type 0
  AreDone = AreFinishedBy book has_run

  pub finished_more : (ids : List WorkerId) (done : List (W × B)) (id : WorkerId) (one : W × B) → AreDone ids done
      → IsFinishedBy book has_run id one → AreDone (ids ++ id ∷ []) (done ++ one ∷ [])
  finished_more [] [] id one all is = (is, tt)
  finished_more [] (d ∷ done) id one all is = absurd all
  finished_more (i ∷ ids) [] id one all is = absurd all
  finished_more (i ∷ ids) (d ∷ done) id one all is = (all.0, finished_more ids done id one all.1 is)

  pub finished_next : {A : Type 0} (who : A → WorkerId) (turns : List A) (t : A) (done new : List (W × B)) (one : W × B) → AreDone (map who turns) done
      → IsFinishedBy book has_run (who t) one → new ≡ done ++ one ∷ [] → AreDone (map who (turns ++ t ∷ [])) new
  finished_next who turns t done new one all is new_is =
      subst (λ (z : List WorkerId × List (W × B)). AreDone z.0 z.1) (λ i. (sym (map-append who turns (t ∷ [])) i, sym new_is i))
      (finished_more (map who turns) done (who t) one all is)

  pub finished_count : (ids : List WorkerId) (xs : List (W × B)) → AreDone ids xs → length xs ≡ length ids
  finished_count [] [] all = refl
  finished_count [] (x ∷ xs) all = absurd all
  finished_count (id ∷ ids) [] all = absurd all
  finished_count (id ∷ ids) (x ∷ xs) all = ap suc (finished_count ids xs all.1)

  pub finished_each : (ids : List WorkerId) (xs : List (W × B)) → AreDone ids xs → All (RanToEndBy book has_run) xs
  finished_each [] [] all k d low = absurd (omega (arith, low))
  finished_each [] (x ∷ xs) all k d low = absurd all
  finished_each (id ∷ ids) [] all k d low = absurd all
  finished_each (id ∷ ids) (x ∷ xs) all zero d low = record { legal = all.0.legal; complete = all.0.complete; ran_accepted = all.0.ran_accepted }
  finished_each (id ∷ ids) (x ∷ xs) all (suc k) d low = finished_each ids xs all.1 k d (omega (arith, low))
