-- What becomes of the pairs of a run, as far as they have come.
use Rattle.wq_value_worker.proofs.Common.{◌≡◌, ℕ, Bool, Option, Some, None, MatchOption, List, [], ◌∷◌, ◌++◌, refl, sym, ap, ◌∙◌, subst, append_assoc}
use Rattle.wq_value_worker.proofs.Common.{append-nil, Event, IsLegal, Learnt, taking, Follows, numbers_in, IsReady, IsUnready, rest_events}
use Rattle.wq_value_worker.proofs.Common.{Moves, WorkerState, ValueWorkerState, owner_in, learnt_on, Ran, Item, Barrier, Stop, Nothing, Owing}
use Rattle.wq_value_worker.proofs.Common.{RunsBy, GivesBack, MayLeave}
use mathlib.Core.List.{IsPrefix}
use Rattle.wq_words.proofs.Prefixes.{prefix_self, prefix_on}
use Rattle.wq_values.specs.KnownWith.{MatchesAccepted}
use Rattle.wq_worker.specs.Follow.{Queues}
use Rattle.wq_worker.specs.Resting.{LeavesWork, owed, nothing}
use Rattle.wq_worker.specs.Works.{no_event, WorksInStepBy, runs as by_run, keeps as by_keeping}
use Rattle.wq_worker.specs.Rows.{Along, here, onward}
use Rattle.wq_value_worker.specs.Deals.{DealsOne, Deals, DealsOut, DealsOutBy, DealsInStep, runs, keeps}
use Rattle.wq_worker.proofs.Works.{nothing_taking, nothing_rest, moves_still}

-- a list that is not there leaves what follows it
behind_none : {X : Type 0} (xs ys : List X) → xs ≡ [] → xs ++ ys ≡ ys ++ []
behind_none {X} xs ys none = ap (λ (z : List X). z ++ ys) none ∙ sym (append-nil ys)

behind_more : {X : Type 0} (xs us vs ys : List X) → xs ≡ us ++ vs → xs ++ ys ≡ us ++ (vs ++ ys)
behind_more {X} xs us vs ys is = ap (λ (z : List X). z ++ ys) is ∙ append_assoc us vs ys

module _ {V : Type 0} (n s : ℕ) (is_shut : Bool) where
  -- one pair more
  pub deals_push : (ps : List (ℕ × V)) (k : ℕ) (v : V) (es fs : List Event) (q qs r rs : List (ℕ × V)) → Deals n s is_shut ps es q r
      → Queues n s is_shut k fs → DealsOne k v fs qs rs → Deals n s is_shut (ps ++ (k, v) ∷ []) (es ++ fs) (q ++ qs) (r ++ rs)
  deals_push [] k v es fs q qs r rs t queues one =
      (fs, [], qs, [], rs, [], behind_none es fs t.0, behind_none q qs t.1, behind_none r rs t.2, queues, one, (refl, refl, refl))
  deals_push (p ∷ ps) k v es fs q qs r rs t queues one = (
    t.0,
    t.1 ++ fs,
    t.2,
    t.3 ++ qs,
    t.4,
    t.5 ++ rs,
    behind_more es t.0 t.1 fs t.6,
    behind_more q t.2 t.3 qs t.7,
    behind_more r t.4 t.5 rs t.8,
    t.9,
    t.10,
    deals_push ps k v t.1 fs t.3 qs t.5 rs t.11 queues one,
  )

  -- their numbers are queued as those of a list
  pub deals_follow : (ps : List (ℕ × V)) (es : List Event) (queued returned : List (ℕ × V)) → Deals n s is_shut ps es queued returned
      → Follows n s is_shut (numbers_in ps) es
  deals_follow [] es queued returned t = t.0
  deals_follow (p ∷ ps) es queued returned t = (t.0, t.1, t.6, t.9, deals_follow ps t.1 t.3 t.5 t.11)

-- the steps of a worker that run nothing
module _ {V W : Type 0} (given : W → List (ℕ × V)) (may : W → ℕ → V → List (ℕ × V) → W → Type 0) (takes : W → ℕ → V → W → Type 0) where
  pub deals_still : (a : ValueWorkerState V W) → IsLegal a.worker.layout a.worker.seen → MatchesAccepted (owner_in a) → DealsInStep given may takes a a
  deals_still a legal whole =
      keeps [] no_event (moves_still a.worker legal) (refl, refl) refl (record { more = prefix_self a.brought; was_whole = whole; as_many = whole })

  pub deals_ready : (a b : ValueWorkerState V W) (r : Option ℕ) → IsLegal a.worker.layout a.worker.seen
      → MatchOption r (IsUnready a.worker b.worker) (λ k. IsReady a.worker k b.worker) → b.unqueued ≡ a.unqueued → Learnt (owner_in a) (owner_in b)
      → DealsInStep given may takes a b
  deals_ready a b (Some k) legal t pairs learnt = keeps (taking a.worker.seen) (nothing_taking a.worker.seen) t.moves t.work_is pairs learnt
  deals_ready a b None legal (owed is same) pairs learnt =
      keeps [] no_event (subst (λ (w : WorkerState W). Moves [] 0 a.worker w) (sym same) (moves_still a.worker legal))
      (ap (λ (w : WorkerState W). w.work) same, ap (λ (w : WorkerState W). w.unqueued) same) pairs learnt
  deals_ready a b None legal (nothing waits idle moved left) pairs learnt =
      keeps (taking a.worker.seen) (nothing_taking a.worker.seen) moved left pairs learnt

  pub deals_rest : (a b : ValueWorkerState V W) (rests : Bool) → Moves (rest_events rests) 0 a.worker b.worker → LeavesWork a.worker b.worker
      → b.unqueued ≡ a.unqueued → Learnt (owner_in a) (owner_in b) → DealsInStep given may takes a b
  deals_rest a b rests moved left pairs learnt = keeps (rest_events rests) (nothing_rest rests) moved left pairs learnt

  step_learnt : (a b : ValueWorkerState V W) → DealsInStep given may takes a b → Learnt (owner_in a) (owner_in b)
  step_learnt a b (runs r ran dealt learnt) = learnt
  step_learnt a b (keeps es still moved left pairs learnt) = learnt

  dealt_given : (a b : ValueWorkerState V W) → DealsOut given may takes a b → IsPrefix (given a.worker.work) (given b.worker.work)
  dealt_given a b d = (d.returned, sym d.given_is)

  same_given : (u w : W) → w ≡ u → IsPrefix (given u) (given w)
  same_given u w same = subst (λ (x : W). IsPrefix (given u) (given x)) (sym same) (prefix_self (given u))

  -- through one step with this answer
  pub dealt_by_given : (r : Ran) (a b : ValueWorkerState V W) → RunsBy (MayLeave may takes) (GivesBack takes) r a.worker b.worker
      → DealsOutBy given may takes r a b → IsPrefix (given a.worker.work) (given b.worker.work)
  dealt_by_given (Item k) a b ran dealt = dealt_given a b dealt
  dealt_by_given (Barrier k) a b ran dealt = dealt_given a b dealt
  dealt_by_given Stop a b ran dealt = dealt_given a b dealt
  dealt_by_given (Owing k) a b ran dealt = dealt_given a b dealt
  dealt_by_given Nothing a b ran dealt = same_given a.worker.work b.worker.work ran.2

  step_given : (a b : ValueWorkerState V W) → DealsInStep given may takes a b → IsPrefix (given a.worker.work) (given b.worker.work)
  step_given a b (runs r ran dealt learnt) = dealt_by_given r a b ran dealt
  step_given a b (keeps es still moved left pairs learnt) = same_given a.worker.work b.worker.work left.0

  -- through a row of steps what was brought, and what was given back, before begins what is now
  pub along_learnt : (a b : ValueWorkerState V W) → MatchesAccepted (owner_in a) → Along (DealsInStep given may takes) a b
      → Learnt (owner_in a) (owner_in b)
  along_learnt a b whole (here c) = record { more = prefix_self c.brought; was_whole = whole; as_many = whole }
  along_learnt a b whole (onward c d e row step) =
      learnt_on (owner_in c) (owner_in d) (owner_in e) (along_learnt c d whole row) (step_learnt d e step)

  pub along_given : (a b : ValueWorkerState V W) → Along (DealsInStep given may takes) a b → IsPrefix (given a.worker.work) (given b.worker.work)
  along_given a b (here c) = prefix_self (given c.worker.work)
  along_given a b (onward c d e row step) =
      prefix_on (given c.worker.work) (given d.worker.work) (given e.worker.work) (along_given c d row) (step_given d e step)

  step_works : (a b : ValueWorkerState V W) → DealsInStep given may takes a b → WorksInStepBy (MayLeave may takes) (GivesBack takes) a.worker b.worker
  step_works a b (runs r ran dealt learnt) = by_run r ran
  step_works a b (keeps es still moved left pairs learnt) = by_keeping es still moved left

  pub along_works : (a b : ValueWorkerState V W) → Along (DealsInStep given may takes) a b
      → Along (WorksInStepBy (MayLeave may takes) (GivesBack takes)) a.worker b.worker
  along_works a b (here c) = here c.worker
  along_works a b (onward c d e row step) = onward c.worker d.worker e.worker (along_works c d row) (step_works d e step)
