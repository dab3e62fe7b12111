-- What a closing and a drain leave.
use Rattle.std.proofs.lemmas.List.{append-nil}
use Rattle.wq_words.specs.History.{is_close}
use Rattle.wq_words.specs.Seen.{owner_seat}
use Rattle.wq_words.proofs.Legal.{legal_next}
use Rattle.wq_words.proofs.OtherSeats.{surrounds}
use Rattle.wq_words.proofs.Appended.{count_by-append}
use Rattle.wq_worker.specs.Rows.{Closes, was_closed, closes}
use Rattle.wq_turn.proofs.Common.{◌≡◌, ℕ, Bool, true, false, List, [], ◌∷◌, length, ap, ◌∙◌, arith, Event, Close, begun, ended, IsClosed, IsRunning}
use Rattle.wq_turn.proofs.Common.{IsComplete, closed_shuts, WorkerState, Moves, owner_of_both, Pauses, limited, owes, owed_before, WorksOn}
use Rattle.wq_turn.proofs.Common.{◌<◌, ◌++◌, sym, subst, append_assoc, Rest, IsLegal, Finishes, rested, completed}
use Rattle.wq_turn.specs.Drained.{IsDrained}
use Rattle.wq_turn.specs.Steps.{EndsJust}
use Rattle.wq_turn.specs.Owed.{IsOwed}
use Rattle.wq_turn.proofs.Moved.{steps_keep, works_keep}
use Rattle.wq_worker.proofs.Refused.{owner_new}
use Rattle.wq_worker.proofs.Draining.{owes_open}

owes_kept : (o : Bool) (v w : List Event) → length (begun w) ≡ length (begun v) → length (ended w) ≡ length (ended v) → IsOwed o v → IsOwed o w
owes_kept true v w b e runs = omega (arith, runs, b, e)
owes_kept false v w b e idle = λ runs. idle (omega (arith, runs, b, e))

module _ {W : Type 0} where
  -- a close begins and ends nothing
  pub closed_owes : (o : Bool) (a b : WorkerState W) → Moves (Close ∷ []) 0 a b → IsOwed o a.seen → IsOwed o b.seen
  closed_owes o a b moved =
      let adds = owner_of_both a.number (Close ∷ []) 0 a.seen b.seen moved.adds in
      owes_kept o a.seen b.seen (ap (length {A = ℕ}) (adds.begun_is ∙ append-nil (begun a.seen)))
      (ap (length {A = ℕ}) (adds.ended_is ∙ append-nil (ended a.seen)))

  -- a queue that is closed stays so
  moved_closed : (es : List Event) (n : ℕ) (a b : WorkerState W) → Moves es n a b → IsClosed a.seen → IsClosed b.seen
  moved_closed es n a b moved closed = let adds = owner_of_both a.number es n a.seen b.seen moved.adds in omega (arith, adds.closes, closed)

  pub close_closes : (a b : WorkerState W) → Moves (Close ∷ []) 0 a b → IsClosed b.seen
  close_closes a b moved = let adds = owner_of_both a.number (Close ∷ []) 0 a.seen b.seen moved.adds in omega (arith, adds.closes)

  close_ends : (a b : WorkerState W) → Closes a b → EndsJust 0 a.seen b.seen
  close_ends a b (was_closed closed same) = omega (arith, ap (λ (w : WorkerState W). length (ended w.seen)) same)
  close_ends a b (closes unclosed moved work unqueued) =
      let adds = owner_of_both a.number (Close ∷ []) 0 a.seen b.seen moved.adds in
      omega (arith, ap (length {A = ℕ}) (adds.ended_is ∙ append-nil (ended a.seen)))

  -- a queue that is closed rests no more
  rests_open : (a b : WorkerState W) → Moves (Rest ∷ []) 0 a b → ¬ IsClosed a.seen
  rests_open a b moved = λ closed.
      let adds = moved.adds in
      let t = surrounds owner_seat Rest adds.new (owner_new a.number 0 (Rest ∷ []) a.seen b.seen adds) in
      let is : b.seen ≡ (a.seen ++ t.front) ++ Rest ∷ t.behind =
      adds.is ∙ (ap (λ (x : List Event). a.seen ++ x) t.is ∙ sym (append_assoc a.seen t.front (Rest ∷ t.behind))) in
      let may = legal_next b.layout (a.seen ++ t.front) Rest t.behind (subst (IsLegal b.layout) is moved.legal) in
      may.2.0 (closed_shuts (a.seen ++ t.front) (omega (arith, closed, count_by-append is_close a.seen t.front)))

  module _ (may : W → ℕ → List ℕ → W → Type 0) (gives : W → W → Type 0) where
    pauses_idle : (limit : ℕ) (a c : WorkerState W) → Pauses may gives limit a c → IsClosed a.seen → ¬ IsRunning a.seen → ¬ IsRunning c.seen
    pauses_idle limit a c (limited k steps just rests next) closed idle = rests
    pauses_idle limit a c (owes n k b low steps step) closed idle =
        absurd (owes_open may gives k b c step (closed_shuts b.seen (steps_keep (λ w. IsClosed w.seen) moved_closed may gives n a b steps closed)))
    pauses_idle limit a c (owed_before is_none runs same) closed idle = absurd (idle runs)

    pub works_closed : (limit : ℕ) (done : Bool) (a c : WorkerState W) → WorksOn may gives limit done a c → IsClosed a.seen → IsClosed c.seen
    works_closed = works_keep (λ w. IsClosed w.seen) moved_closed may gives

    pub works_idle : (limit : ℕ) (done : Bool) (a c : WorkerState W) → WorksOn may gives limit done a c → IsClosed a.seen → ¬ IsRunning a.seen
        → ¬ IsRunning c.seen
    works_idle limit true a c t closed idle = t.1
    works_idle limit false a c t closed idle = pauses_idle limit a c t closed idle

    -- of a closed queue nothing is left where the worker finished
    finishes_all : (limit left : ℕ) (a c : WorkerState W) → Finishes may gives limit a c → IsClosed a.seen → IsDrained left c → left ≡ 0
    finishes_all limit left a c (rested n b low steps work moved) closed drained =
        absurd (rests_open b c moved (steps_keep (λ w. IsClosed w.seen) moved_closed may gives n a b steps closed))
    finishes_all limit left a c (completed n low steps done) closed drained = omega (arith, done.1, drained.left_is)

    pauses_just : (limit : ℕ) (a c : WorkerState W) → Pauses may gives limit a c → IsClosed a.seen → ¬ IsRunning a.seen → EndsJust limit a.seen c.seen
    pauses_just limit a c (limited k steps just rests next) closed idle = just
    pauses_just limit a c (owes n k b low steps step) closed idle =
        absurd (owes_open may gives k b c step (closed_shuts b.seen (steps_keep (λ w. IsClosed w.seen) moved_closed may gives n a b steps closed)))
    pauses_just limit a c (owed_before is_none runs same) closed idle = absurd (idle runs)

    -- where something is left just as many executions ended as the limit says
    works_just : (limit left : ℕ) (done : Bool) (a c : WorkerState W) → WorksOn may gives limit done a c → IsClosed a.seen → ¬ IsRunning a.seen
        → IsDrained left c → 0 < left → EndsJust limit a.seen c.seen
    works_just limit left true a c t closed idle drained some = absurd (omega (arith, finishes_all limit left a c t.0 closed drained, some))
    works_just limit left false a c t closed idle drained some = pauses_just limit a c t closed idle

    pub drained_just : (limit left : ℕ) (done : Bool) (a b c : WorkerState W) → Closes a b → IsClosed b.seen → ¬ IsRunning b.seen
        → WorksOn may gives limit done b c → IsDrained left c → 0 < left → EndsJust limit a.seen c.seen
    drained_just limit left done a b c shuts closed idle works drained some =
        omega (arith, close_ends a b shuts, works_just limit left done b c works closed idle drained some)

pub left_complete : {W : Type 0} (w : WorkerState W) → IsDrained 0 w → IsComplete w.seen
left_complete w drained = let all = drained.left_is in (drained.closed, omega (arith, all))
