-- What a worker's step tells.
use Rattle.wq_worker.proofs.Common.{◌≡◌, ℕ, ◌+◌, ◌<◌, ◌≤◌, ⊎_elim, Bool, Some, List, [], ◌∷◌, ◌++◌, length, refl, sym, ◌∙◌, ap, subst, arith}
use Rattle.wq_worker.proofs.Common.{cases_lt, Layout, Event, Begin, End, shut, running, IsRunning, IsLegal, KnownPair, Ran, Item, Barrier, Stop}
use Rattle.wq_worker.proofs.Common.{Nothing, Owing, Adds, taking, Follows, contended_of, Both, QueuesRest, finished, contended, WorkerState, Moves}
use Rattle.wq_worker.proofs.Common.{stays, EndsBy, OwesBy, owes, RunsBy, runs_some}
use Rattle.wq_worker.specs.Step.{IsKind, StartsBy, item, other, owed, ends, Begins}
use Rattle.wq_worker.proofs.Seats.{adds_on}
use Rattle.wq_worker.proofs.Owned.{owner_of_both}
use Rattle.wq_worker.proofs.Running.{runs_begun, idle_ended}
use Rattle.wq_worker.proofs.Pair.{both_on}
use Rattle.wq_worker.proofs.Follow.{advance_stays}
use Rattle.wq_worker.proofs.State.{phase_changes_taking, begun_taking, ended_taking}

module _ {W : Type 0} where
  abbrev pub state_of : KnownPair → ℕ → List ℕ → W → WorkerState W
  state_of p tries unqueued w = record {
    queue = p.queue;
    layout = p.layout;
    number = p.number;
    tries = tries;
    seen = p.seen;
    unqueued = unqueued;
    work = w;
  }

  pub moves_by : (es : List Event) (n tries : ℕ) (l l' : List ℕ) (w w' : W) (old new : KnownPair) → Both es n old new
      → Moves es n (state_of old tries l w) (state_of new tries l' w')
  moves_by es n tries l l' w w' old new b =
      record { queue = b.queue_is; layout = b.layout_is; number = b.number_is; tries = refl; adds = b.adds; legal = b.legal }

  pub moves_on : (xs ys : List Event) (n m : ℕ) (a b c : WorkerState W) → Moves xs n a b → Moves ys m b c → Moves (xs ++ ys) (n + m) a c
  moves_on xs ys n m a b c p q = record {
    queue = q.queue ∙ p.queue;
    layout = q.layout ∙ p.layout;
    number = q.number ∙ p.number;
    tries = q.tries ∙ p.tries;
    adds = adds_on a.number xs ys n m a.seen b.seen c.seen p.adds (subst (λ (z : ℕ). Adds z ys m b.seen c.seen) p.number q.adds);
    legal = q.legal;
  }

module _ {W : Type 0} (may : W → ℕ → List ℕ → W → Type 0) where
  pub begins_by : (k tries : ℕ) (l l' : List ℕ) (w w' : W) (old new : KnownPair) → IsLegal old.layout old.seen → ¬ IsRunning old.seen
      → Both (taking old.seen ++ Begin k ∷ []) 0 old new → (k < old.layout.items → may w k l' w') → (old.layout.items ≤ k → (l' ≡ []) × (w' ≡ w))
      → Begins may (state_of old tries l w) k (state_of new tries l' w')
  begins_by k tries l l' w w' old new legal idle b ran none = record {
    moves = moves_by (taking old.seen ++ Begin k ∷ []) 0 tries l l' w w' old new b;
    runs = runs_begun old.layout k (taking old.seen ++ Begin k ∷ []) old.seen new.seen legal idle (begun_taking old.seen k) (ended_taking old.seen k)
        (owner_of_both old.number (taking old.seen ++ Begin k ∷ []) 0 old.seen new.seen b.adds);
    item = ran;
    other = none;
  }

  pub shut_still : (a m : WorkerState W) (k : ℕ) → Begins may a k m → shut m.seen ≡ shut a.seen
  shut_still a m k b =
      ((owner_of_both a.number (taking a.seen ++ Begin k ∷ []) 0 a.seen m.seen b.moves.adds).phase (phase_changes_taking a.seen k)).shut_same

  told_before : (a m : WorkerState W) (k : ℕ) (ks : List ℕ) (es : List Event) → Begins may a k m
      → Follows m.layout.items m.number (shut m.seen) ks es → Follows a.layout.items a.number (shut a.seen) ks es
  told_before a m k ks es b t =
      subst (λ (z : Bool). Follows a.layout.items a.number z ks es) (shut_still a m k b)
      (subst (λ (z : ℕ). Follows a.layout.items z (shut m.seen) ks es) b.moves.number
      (subst (λ (z : Layout). Follows z.items m.number (shut m.seen) ks es) b.moves.layout t))

module _ {W : Type 0} (may : W → ℕ → List ℕ → W → Type 0) (gives : W → W → Type 0) where
  -- of the numbers ks to be queued js are left, and the givings back leave w' of the work w
  pub advance_owes : (k tries : ℕ) (ks js : List ℕ) (w w' : W) (old new : KnownPair) → gives w w' → running old.seen ≡ Some k → 0 < length js
      → QueuesRest tries ks js old new → OwesBy may gives (state_of old tries ks w) k (state_of new tries js w')
  advance_owes k tries ks js w w' old new left runs some (finished es none told b) =
      let e : length js ≡ 0 = ap (length {A = ℕ}) none in absurd (omega (arith, e, some))
  advance_owes k tries ks js w w' old new left runs some (contended qs j more es split is small opens told b) =
      owes ks qs j more [] es (owed runs refl left refl) (split ∙ ap (λ (z : List ℕ). qs ++ z) is) small is opens told
      (moves_by (es ++ contended_of old.number j) tries tries ks js w w' old new b)
      ((advance_stays tries ks js old new (contended qs j more es split is small opens told b)).running_same ∙ runs)

  pub advance_ends : (k tries : ℕ) (ks js : List ℕ) (w w' : W) (old mid new : KnownPair) → gives w w' → running old.seen ≡ Some k → js ≡ []
      → QueuesRest tries ks js old mid → Both (End k ∷ []) 0 mid new → EndsBy may gives (state_of old tries ks w) k (state_of new tries js w')
  advance_ends k tries ks js w w' old mid new left runs done (finished es none told b) e =
      ends ks [] es (owed runs refl left refl) told
      (moves_by (es ++ End k ∷ []) 0 tries ks js w w' old new (both_on es (End k ∷ []) 0 0 old mid new b e))
      (idle_ended mid.layout k (End k ∷ []) mid.seen new.seen b.legal refl refl (owner_of_both mid.number (End k ∷ []) 0 mid.seen new.seen e.adds))
  advance_ends k tries ks js w w' old mid new left runs done (contended qs j more es split is small opens told b) e = absurd (cc)

  pub runs_kind : (k : ℕ) (r : Ran) (layout : Layout) (a b : WorkerState W) → layout ≡ a.layout → IsKind layout k r → EndsBy may gives a k b
      → RunsBy may gives r a b
  runs_kind k (Item j) layout a b same h e = (k, subst (λ (z : Layout). IsKind z k (Item j)) same h, e)
  runs_kind k (Barrier j) layout a b same h e = (k, subst (λ (z : Layout). IsKind z k (Barrier j)) same h, e)
  runs_kind k Stop layout a b same h e = (k, subst (λ (z : Layout). IsKind z k Stop) same h, e)
  runs_kind k Nothing layout a b same h e = absurd h
  runs_kind k (Owing j) layout a b same h e = absurd h

-- where a run that is allowed is so still after givings back
module _ {W : Type 0} (may : W → ℕ → List ℕ → W → Type 0) (gives : W → W → Type 0)
    (after : (w u v : W) (k : ℕ) (f : List ℕ) → may w k f u → gives u v → may w k f v) where
  started : (k j : ℕ) (f : List ℕ) (v : W) (es : List Event) (a m : WorkerState W) → Begins may a k m → ¬ IsRunning a.seen
      → StartsBy may gives m j f v es → (k ≡ j) × (es ≡ []) × StartsBy may gives a j f v (taking a.seen ++ Begin k ∷ [])
  started k j f v es a m b idle (item none low h is) = absurd (none (runs_some m.seen k b.runs))
  started k j f v es a m b idle (other none high h i is) = absurd (none (runs_some m.seen k b.runs))
  started k j f v es a m b idle (owed runs left given is) =
      let t = b.runs in let eq : k ≡ j = cc in let to = taking a.seen ++ Begin k ∷ [] in
      let shape : to ≡ taking a.seen ++ Begin j ∷ [] = ap (λ (z : ℕ). taking a.seen ++ Begin z ∷ []) eq in (
        eq,
        is,
        ⊎_elim
            (λ (low : j < a.layout.items). let old : k < a.layout.items = omega (arith, eq) in
            let ran : may a.work k f m.work = subst (λ (z : List ℕ). may a.work k z m.work) (sym left) (b.item old) in
            let now : may a.work j f m.work = subst (λ (z : ℕ). may a.work z f m.work) eq ran in
            item idle low (after a.work m.work v j f now given) shape)
            (λ (high : a.layout.items ≤ j). let old : a.layout.items ≤ k = omega (arith, eq) in let none = b.other old in
            other idle high (left ∙ none.0) (subst (λ (z : W). gives z v) none.1 given) shape)
            (cases_lt j a.layout.items),
      )

  ends_fresh : (k j : ℕ) (a m b : WorkerState W) → Begins may a k m → ¬ IsRunning a.seen → EndsBy may gives m j b → EndsBy may gives a j b
  ends_fresh k j a m b g idle (ends f es fs st told moved none) =
      let s = started k j f b.work es a m g idle st in let to = taking a.seen ++ Begin k ∷ [] in
      let rest : Moves (fs ++ End j ∷ []) 0 m b = subst (λ (z : List Event). Moves (z ++ (fs ++ End j ∷ [])) 0 m b) s.1 moved in
      ends f to fs s.2 (told_before may a m k f fs g told) (moves_on to (fs ++ End j ∷ []) 0 0 a m b g.moves rest) none

  owes_fresh : (k j : ℕ) (a m b : WorkerState W) → Begins may a k m → ¬ IsRunning a.seen → OwesBy may gives m j b → OwesBy may gives a j b
  owes_fresh k j a m b g idle (owes f qs i more es fs st split small left opens told moved runs) =
      let s = started k j f b.work es a m g idle st in let to = taking a.seen ++ Begin k ∷ [] in
      let own : List Event = contended_of a.number i in
      let rest1 : Moves (fs ++ contended_of m.number i) m.tries m b =
      subst (λ (z : List Event). Moves (z ++ (fs ++ contended_of m.number i)) m.tries m b) s.1 moved in
      let rest : Moves (fs ++ own) a.tries m b = subst (λ (z : ℕ). Moves (fs ++ own) z m b) g.moves.tries
      (subst (λ (z : ℕ). Moves (fs ++ contended_of z i) m.tries m b) g.moves.number rest1) in
      owes f qs i more to fs s.2 split (subst (λ (z : Layout). i < z.items) g.moves.layout small) left
      (sym (shut_still may a m k g) ∙ opens) (told_before may a m k qs fs g told)
      (subst (λ (z : ℕ). Moves (to ++ (fs ++ own)) z a b) (omega arith) (moves_on to (fs ++ own) 0 a.tries a m b g.moves rest)) runs

  pub runs_fresh : (k : ℕ) (r : Ran) (a m b : WorkerState W) → Begins may a k m → ¬ IsRunning a.seen → RunsBy may gives r m b → RunsBy may gives r a b
  runs_fresh k (Item j) a m b g idle t = (t.0, subst (λ (z : Layout). IsKind z t.0 (Item j)) g.moves.layout t.1, ends_fresh k t.0 a m b g idle t.2)
  runs_fresh k (Barrier j) a m b g idle t = (t.0, subst (λ (z : Layout). IsKind z t.0 (Barrier j)) g.moves.layout t.1, ends_fresh k t.0 a m b g idle t.2)
  runs_fresh k Stop a m b g idle t = (t.0, subst (λ (z : Layout). IsKind z t.0 Stop) g.moves.layout t.1, ends_fresh k t.0 a m b g idle t.2)
  runs_fresh k Nothing a m b g idle t = absurd (t.0 (runs_some m.seen k g.runs))
  runs_fresh k (Owing j) a m b g idle t = owes_fresh k j a m b g idle t

pub after_stays : {W : Type 0} (may : W → ℕ → List ℕ → W → Type 0) (w u v : W) (k : ℕ) (f : List ℕ) → may w k f u → stays u v → may w k f v
after_stays may w u v k f ran same = subst (may w k f) (sym same) ran
