-- What the queueings of a list add, as far as they have come.
use Rattle.wq_worker.proofs.Common.{◌≡◌, ℕ, ◌+◌, ◌<◌, Bool, true, false, cond, List, [], ◌∷◌, ◌++◌, refl, sym, ◌∙◌, ap, subst, arith}
use Rattle.wq_worker.proofs.Common.{append_assoc, append-nil, Layout, Event, Hold, Busy, Push, shut, IsRunning, IsLegal, Sees, KnownPair, pair_owner}
use Rattle.wq_worker.proofs.Common.{pair_sender, Follows, contended_of, Both, QueuesRest, finished, contended, open_from_shut}
use Rattle.wq_words.specs.declared.event.Event.TheVariants.{Chain, ChainBusy}
use Rattle.wq_words.specs.declared.answer.Answer.{Answer}
use Rattle.wq_words.specs.declared.answer.Answer.TheVariants as answer
use Rattle.wq_live.specs.Answers.{Answers, Chains}
use Rattle.wq_worker.specs.Follow.{Queues, passed, pushed, busy, chained, chain_busy}
use Rattle.wq_worker.specs.Pair.{settled, Attempts}
use Rattle.wq_worker.proofs.Owned.{LeavesExecutions, quiet_none, quiet_append, Stays, quiet_stays, owner_of_both}
use Rattle.wq_words.proofs.Closed.{closed_shuts}
use Rattle.wq_worker.proofs.Pair.{both_on, by_owner, by_sender}
use Rattle.wq_calls.proofs.PhaseKept.{phase_grown, unclosed_still}
use Rattle.wq_calls.proofs.Refused.{closed_by}
use Rattle.wq_calls.proofs.Refusals.{met_none}

quiet_as : (xs es : List Event) → es ≡ xs → LeavesExecutions xs → LeavesExecutions es
quiet_as xs es is q = subst LeavesExecutions (sym is) q

pub quiet_queues : (n s : ℕ) (b : Bool) (k : ℕ) (es : List Event) → Queues n s b k es → LeavesExecutions es
quiet_queues n s b k es (passed h is) = quiet_as [] es is quiet_none
quiet_queues n s b k es (pushed h i is) = quiet_as (Hold s k ∷ Push s k ∷ []) es is (record { begun_none = refl; ended_none = refl; phase_changes_none = refl })
quiet_queues n s b k es (busy h i is) = quiet_as (Busy s k ∷ []) es is (record { begun_none = refl; ended_none = refl; phase_changes_none = refl })
quiet_queues n s b k es (chained h i is) = quiet_as (Chain k ∷ []) es is (record { begun_none = refl; ended_none = refl; phase_changes_none = refl })
quiet_queues n s b k es (chain_busy h i is) = quiet_as (ChainBusy k ∷ []) es is (record { begun_none = refl; ended_none = refl; phase_changes_none = refl })

pub quiet_contended : (s k : ℕ) → LeavesExecutions (contended_of s k)
quiet_contended s k = record { begun_none = refl; ended_none = refl; phase_changes_none = refl }

pub quiet_follows : (n s : ℕ) (b : Bool) (ks : List ℕ) (es : List Event) → Follows n s b ks es → LeavesExecutions es
quiet_follows n s b [] es is = quiet_as [] es is quiet_none
quiet_follows n s b (k ∷ ks) es t = quiet_as (t.0 ++ t.1) es t.2 (quiet_append t.0 t.1 (quiet_queues n s b k t.0 t.3) (quiet_follows n s b ks t.1 t.4))

-- one number more
pub follows_push : (n s : ℕ) (b : Bool) (ks : List ℕ) (k : ℕ) (es fs : List Event) → Follows n s b ks es → Queues n s b k fs
    → Follows n s b (ks ++ k ∷ []) (es ++ fs)
follows_push n s b [] k es fs t q = (fs, [], ap (λ (z : List Event). z ++ fs) t ∙ sym (append-nil fs), q, refl)
follows_push n s b (j ∷ ks) k es fs t q =
    (t.0, t.1 ++ fs, ap (λ (z : List Event). z ++ fs) t.2 ∙ append_assoc t.0 t.1 fs, t.3, follows_push n s b ks k t.1 fs t.4 q)

pub told_chain : (item : ℕ) (a : Answer) (old new : KnownPair) → item < old.layout.items → shut old.seen ≡ true
    → Chains item a (pair_owner old) (pair_owner new) → Sees [] 0 (pair_sender old) (pair_sender new)
    → (es : List Event) × Queues old.layout.items old.number (shut old.seen) item es × Both es 0 old new
told_chain item (answer.Queued is_first wakes) old new low is_shut h c =
    (Chain item ∷ [], chained low is_shut refl, by_owner (Chain item ∷ []) 0 0 old new h.2 c)
told_chain item answer.Pending old new low is_shut h c = (ChainBusy item ∷ [], chain_busy low is_shut refl, by_owner (ChainBusy item ∷ []) 0 0 old new h c)
told_chain item answer.Closed old new low is_shut h c = absurd h
told_chain item answer.Contended old new low is_shut h c = absurd h
told_chain item answer.Draining old new low is_shut h c = absurd h

-- the worker alone closes and drains its queue, so that no queueing while it takes pushes is refused by that
pub never_closed : (item tries : ℕ) (old new : KnownPair) → shut old.seen ≡ false → Answers item tries answer.Closed (pair_sender old) (pair_sender new)
    → Sees [] 0 (pair_owner old) (pair_owner new) → ⊥
never_closed item tries old new opens h c =
    unclosed_still old.seen new.seen (phase_grown [] 0 old.seen new.seen c.grows refl) (λ is. open_from_shut old.seen opens (closed_shuts old.seen is))
    (closed_by old.number new.layout item 0 old.seen new.seen h.grows h.legal)

pub never_drains : (item tries : ℕ) (old new : KnownPair) → shut old.seen ≡ false → Answers item tries answer.Draining (pair_sender old) (pair_sender new)
    → Sees [] 0 (pair_owner old) (pair_owner new) → ⊥
never_drains item tries old new opens h c = met_none 0 old.seen new.seen c.grows (open_from_shut old.seen opens)
    h.1.within

pub told_send : (item tries : ℕ) (a : Answer) (old new : KnownPair) → item < old.layout.items → shut old.seen ≡ false
    → Answers item tries a (pair_sender old) (pair_sender new) → Sees [] 0 (pair_owner old) (pair_owner new)
    → (es : List Event) × Attempts old.layout.items old.number (shut old.seen) item (settled a) es × Both es (cond (settled a) 0 tries) old new
told_send item tries (answer.Queued is_first wakes) old new low opens h c =
    let es = Hold old.number item ∷ Push old.number item ∷ [] in (es, pushed low opens refl, by_sender es 0 0 old new h.0 c)
told_send item tries answer.Pending old new low opens h c =
    let es = Busy old.number item ∷ [] in (es, busy low opens refl, by_sender es 0 0 old new h c)
told_send item tries answer.Closed old new low opens h c = absurd (never_closed item tries old new opens h c)
told_send item tries answer.Draining old new low opens h c = absurd (never_drains item tries old new opens h c)
told_send item tries answer.Contended old new low opens h c =
    (contended_of old.number item, (low, opens, refl), by_sender (contended_of old.number item) tries 0 old new h c)

-- of the numbers ks those before js were queued
pub record Sofar (ks js : List ℕ) (old new : KnownPair) : Type 0 where
  pub queued : List ℕ
  pub events : List Event
  pub split : ks ≡ queued ++ js
  pub told : Follows old.layout.items old.number (shut old.seen) queued events
  pub moved : Both events 0 old new

pub sofar_stays : (ks js : List ℕ) (old new : KnownPair) → Sofar ks js old new → Stays old.seen new.seen
sofar_stays ks js old new f =
    quiet_stays f.events old.seen new.seen (quiet_follows old.layout.items old.number (shut old.seen) f.queued f.events f.told)
    (owner_of_both old.number f.events 0 old.seen new.seen f.moved.adds)

pub sofar_runs : (ks js : List ℕ) (old new : KnownPair) → Sofar ks js old new → IsRunning old.seen → IsRunning new.seen
sofar_runs ks js old new f runs = let k = sofar_stays ks js old new f in rw (k.begun_same, k.ended_same) runs

-- what a queueing added after these events, as one of a list
pub queues_since : (xs : List Event) (n k : ℕ) (es : List Event) (old mid : KnownPair) → Both xs n old mid → Stays old.seen mid.seen
    → Queues mid.layout.items mid.number (shut mid.seen) k es → Queues old.layout.items old.number (shut old.seen) k es
queues_since xs n k es old mid moved same told =
    subst (λ (z : Bool). Queues old.layout.items old.number z k es) same.phase.shut_same
    (subst (λ (z : ℕ). Queues old.layout.items z (shut mid.seen) k es) moved.number_is
    (subst (λ (z : Layout). Queues z.items mid.number (shut mid.seen) k es) moved.layout_is told))

pub one_more : (ks : List ℕ) (k : ℕ) (js : List ℕ) (b : Bool) (tries : ℕ) (old mid new : KnownPair) → Sofar ks (k ∷ js) old mid → b ≡ true
    → (es : List Event) × Attempts mid.layout.items mid.number (shut mid.seen) k b es × Both es (cond b 0 tries) mid new → Sofar ks js old new
one_more ks k js b tries old mid new f won h =
    let h1 : (es : List Event) × Queues mid.layout.items mid.number (shut mid.seen) k es × Both es 0 mid new =
    subst (λ (z : Bool). (es : List Event) × Attempts mid.layout.items mid.number (shut mid.seen) k z es × Both es (cond z 0 tries) mid new) won h in
    let same = sofar_stays ks (k ∷ js) old mid f in
    record {
      queued = f.queued ++ k ∷ [];
      events = f.events ++ h1.0;
      split = f.split ∙ sym (append_assoc f.queued (k ∷ []) js);
      told = follows_push old.layout.items old.number (shut old.seen) f.queued k f.events h1.0 f.told
          (queues_since f.events 0 k h1.0 old mid f.moved same h1.1);
      moved = both_on f.events h1.0 0 0 old mid new f.moved h1.2;
    }

pub was_contended : (ks : List ℕ) (k : ℕ) (js : List ℕ) (b : Bool) (tries : ℕ) (old mid new : KnownPair) → Sofar ks (k ∷ js) old mid → b ≡ false
    → (es : List Event) × Attempts mid.layout.items mid.number (shut mid.seen) k b es × Both es (cond b 0 tries) mid new → QueuesRest tries ks (k ∷ js) old new
was_contended ks k js b tries old mid new f lost h =
    let h1 : (es : List Event) × Attempts mid.layout.items mid.number (shut mid.seen) k false es × Both es tries mid new =
    subst (λ (z : Bool). (es : List Event) × Attempts mid.layout.items mid.number (shut mid.seen) k z es × Both es (cond z 0 tries) mid new) lost h in
    let now : Both (contended_of old.number k) tries mid new =
    subst (λ (z : ℕ). Both (contended_of z k) tries mid new) f.moved.number_is (subst (λ (z : List Event). Both z tries mid new) h1.1.2 h1.2) in
    let low : k < old.layout.items = subst (λ (z : Layout). k < z.items) f.moved.layout_is h1.1.0 in
    let same = sofar_stays ks (k ∷ js) old mid f in
    contended f.queued k js f.events f.split refl low (sym same.phase.shut_same ∙ h1.1.1) f.told
    (subst (λ (z : ℕ). Both (f.events ++ contended_of old.number k) z old new) (omega arith)
    (both_on f.events (contended_of old.number k) 0 tries old mid new f.moved now))

pub all_queued : (tries : ℕ) (ks js : List ℕ) (old new : KnownPair) → js ≡ [] → Sofar ks js old new → QueuesRest tries ks js old new
all_queued tries ks js old new none f =
    let split : ks ≡ f.queued = f.split ∙ (ap (λ (z : List ℕ). f.queued ++ z) none ∙ append-nil f.queued) in
    finished f.events none (subst (λ (z : List ℕ). Follows old.layout.items old.number (shut old.seen) z f.events) (sym split) f.told) f.moved

pub advance_stays : (tries : ℕ) (ks js : List ℕ) (old new : KnownPair) → QueuesRest tries ks js old new → Stays old.seen new.seen
advance_stays tries ks js old new (finished es none told b) =
    quiet_stays es old.seen new.seen (quiet_follows old.layout.items old.number (shut old.seen) ks es told)
    (owner_of_both old.number es 0 old.seen new.seen b.adds)
advance_stays tries ks js old new (contended qs k more es split is low opens told b) =
    quiet_stays (es ++ contended_of old.number k) old.seen new.seen
    (quiet_append es (contended_of old.number k) (quiet_follows old.layout.items old.number (shut old.seen) qs es told) (quiet_contended old.number k))
    (owner_of_both old.number (es ++ contended_of old.number k) tries old.seen new.seen b.adds)

pub advance_layout : (tries : ℕ) (ks js : List ℕ) (old new : KnownPair) → QueuesRest tries ks js old new → new.layout ≡ old.layout
advance_layout tries ks js old new (finished es none told b) = b.layout_is
advance_layout tries ks js old new (contended qs k more es split is low opens told b) = b.layout_is

pub advance_number : (tries : ℕ) (ks js : List ℕ) (old new : KnownPair) → QueuesRest tries ks js old new → new.number ≡ old.number
advance_number tries ks js old new (finished es none told b) = b.number_is
advance_number tries ks js old new (contended qs k more es split is low opens told b) = b.number_is

pub advance_legal : (tries : ℕ) (ks js : List ℕ) (old new : KnownPair) → QueuesRest tries ks js old new → IsLegal new.layout new.seen
advance_legal tries ks js old new (finished es none told b) = b.legal
advance_legal tries ks js old new (contended qs k more es split is low opens told b) = b.legal
