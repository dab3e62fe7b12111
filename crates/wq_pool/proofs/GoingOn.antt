-- A caller that goes on.
use Rattle.wq_ready.specs.declared.event.ReadyEvent.{ReadyEvent}
use Rattle.std.specs.declared.result.Result.{Result}
use Rattle.std.specs.declared.result.Result.TheVariants.{Ok, Err}
use Rattle.wq_ready.specs.declared.ready_queue.AnnounceError.{AnnounceError}
use Rattle.wq_ready.specs.declared.ready_queue.AnnounceError.TheVariants.{NoQueue, Full}
use Rattle.wq_ready.specs.Answers.{Picks, Announces}
use Rattle.wq_pool.proofs.Common.{◌≡◌, ℕ, List, [], ◌++◌, slice_get, Some, None, Option, sym, refl, ap, ◌∙◌, subst, append_assoc, append-nil, CallerState}
use Rattle.wq_pool.proofs.Common.{WorkerState, WorkerId, TurnState, PoolState, IsSameTurn, GoesOnFrom, IsTurnOf, Bool, HandedIn, IsHandedAt, GoesOnAt}
use Rattle.wq_pool.proofs.Common.{seen_by, id_of}
use mathlib.Core.List.{IsPrefix}
use Rattle.wq_words.specs.declared.event.Event.{Event}
use Rattle.wq_words.proofs.Prefixes.{prefix_self, prefix_on}
use Rattle.wq_worker.specs.Rows.{Along, Closes, was_closed, closes}
use Rattle.wq_worker.proofs.Rows.{along_on}
use Rattle.wq_worker.specs.State.{Moves}
use Rattle.wq_turn.specs.Drained.{ClosesAndWorks}
use Rattle.wq_turn.specs.Steps.{WorksOn}
use Rattle.wq_turn.proofs.Moved.{works_keep}

pub goes_still : (a : CallerState) → GoesOnFrom a a
goes_still a = record { same = record { ready_is = refl; number_is = refl }; begins = ([], append-nil a.seen) }

pub goes_on : (a b c : CallerState) → GoesOnFrom a b → GoesOnFrom b c → GoesOnFrom a c
goes_on a b c p q = record {
  same = record { ready_is = q.same.ready_is ∙ p.same.ready_is; number_is = q.same.number_is ∙ p.same.number_is };
  begins = (
    p.begins.0 ++ q.begins.0,
    sym (append_assoc a.seen p.begins.0 q.begins.0) ∙ (ap (λ (z : List ReadyEvent). z ++ q.begins.0) p.begins.1 ∙ q.begins.1),
  );
}

pub goes_by_pick : (r : Option ℕ) (a b : CallerState) → Picks r a b → GoesOnFrom a b
goes_by_pick (Some q) a b t = record { same = t.same; begins = (t.grows.new, sym t.grows.is) }
goes_by_pick None a b t = subst (λ (z : CallerState). GoesOnFrom a z) (sym t.0) (goes_still a)

pub goes_between : (a a' b b' : CallerState) → a ≡ a' → b ≡ b' → GoesOnFrom a b → GoesOnFrom a' b'
goes_between a a' b b' p q g = subst (λ (z : CallerState × CallerState). GoesOnFrom z.0 z.1) (λ i. (p i, q i)) g

pub goes_by_announce : (q : ℕ) (r : Result (Unit {0}) AnnounceError) (a b : CallerState) → Announces q r a b → GoesOnFrom a b
goes_by_announce q (Ok _) a b t = record { same = t.same; begins = (t.grows.new, sym t.grows.is) }
goes_by_announce q (Err NoQueue) a b t = subst (λ (z : CallerState). GoesOnFrom a z) (sym t) (goes_still a)
goes_by_announce q (Err Full) a b t = subst (λ (z : CallerState). GoesOnFrom a z) (sym t.0) (goes_still a)

pub goes_on_at : {K W : Type 0} (state : K → WorkerState W) (deals : K → K → Type 0) (states : List K) (q : ℕ) (a b : K)
    → GoesOnAt state deals states q a → IsPrefix (seen_by state a) (seen_by state b) → Along deals a b → GoesOnAt state deals states q b
goes_on_at state deals states q a b on more row = record {
  old = on.old;
  old_is = on.old_is;
  begins = prefix_on (seen_by state on.old) (seen_by state a) (seen_by state b) on.begins more;
  along = along_on deals on.old a b on.along row;
}

-- where a worker goes on it is still the one that was handed in
pub handed_on : {K W : Type 0} (state : K → WorkerState W) (deals : K → K → Type 0) (handed : HandedIn K) (q : ℕ) (a b : K)
    → IsHandedAt state deals handed q a → id_of state b ≡ id_of state a → IsPrefix (seen_by state a) (seen_by state b) → Along deals a b
    → IsHandedAt state deals handed q b
handed_on state deals handed q a b is same more row = record {
  worker_is = is.worker_is ∙ ap Some (sym same);
  goes_on = goes_on_at state deals handed.states q a b is.goes_on more row;
}

module _ {W : Type 0} (may : W → ℕ → List ℕ → W → Type 0) (gives : W → W → Type 0) where
  moved_begins : (h : List Event) (es : List Event) (n : ℕ) (a b : WorkerState W) → Moves es n a b → IsPrefix h a.seen → IsPrefix h b.seen
  moved_begins h es n a b moved begins = prefix_on h a.seen b.seen begins (moved.adds.new, sym moved.adds.is)

  -- a worker that works on has seen what it had seen
  pub works_begins : (limit : ℕ) (done : Bool) (a c : WorkerState W) → WorksOn may gives limit done a c → IsPrefix a.seen c.seen
  works_begins limit done a c t = works_keep (λ w. IsPrefix a.seen w.seen) (moved_begins a.seen) may gives limit done a c t (prefix_self a.seen)

  close_begins : (a b : WorkerState W) → Closes a b → IsPrefix a.seen b.seen
  close_begins a b (was_closed closed same) = subst (λ (w : WorkerState W). IsPrefix a.seen w.seen) (sym same) (prefix_self a.seen)
  close_begins a b (closes unclosed moved work unqueued) = (moved.adds.new, sym moved.adds.is)

  pub drain_begins : (limit : ℕ) (a c : WorkerState W) → ClosesAndWorks may gives limit a c → IsPrefix a.seen c.seen
  drain_begins limit a c t =
      prefix_on a.seen t.closed.seen c.seen (close_begins a t.closed t.closes) (works_begins limit t.is_done t.closed c t.works)

pub turn_same : {K W : Type 0} (state : K → WorkerState W) (deals : K → K → Type 0) (p : PoolState K) (t u : TurnState K) → IsTurnOf state deals p t
    → IsSameTurn state t u → Along deals t.worker u.worker → IsTurnOf state deals p u
turn_same state deals p t u is same row = record {
  slots_is = same.slots_is ∙ is.slots_is;
  worker_is = subst (λ (z : ℕ × WorkerId). slice_get p.workers z.0 ≡ Some z.1) (λ i. (sym same.queue_is i, sym same.worker_is i)) is.worker_is;
  goes_on = subst (λ (q : ℕ). GoesOnAt state deals p.states q u.worker) (sym same.queue_is)
      (goes_on_at state deals p.states t.queue t.worker u.worker is.goes_on same.begins row);
}

-- where a caller was refused it is as it was
pub still_refused : (q : ℕ) (e : AnnounceError) (a b : CallerState) → Announces q (Err e) a b → b ≡ a
still_refused q NoQueue a b t = t
still_refused q Full a b t = t.0
