-- How often each sender pushed, and what was accepted.
use Rattle.wq_words.specs.declared.event.Event.TheVariants.{Hold, Busy, Push, Back, Take, Close, Drain, Resume, Begin, End, Chain, ChainBusy, Rest}
use Rattle.wq_words.proofs.Growing.{count_by_push}
use Rattle.wq_words.proofs.Legal.{legal_induction, legal_next, legal_rest}
use Rattle.wq_ledger.proofs.Common.{◌≡◌, ℕ, ◌+◌, ◌<◌, ◌≤◌, min, Bool, true, false, cond, ◌≢◌, List, [], ◌∷◌, ◌++◌, nat_lt, ◌==◌, count_by, sym, refl, ap, ◌∙◌}
use Rattle.wq_ledger.proofs.Common.{subst, arith, ltb-false, lt-ltb, le-ltb, eqb-true, eqb-false, ltb-true, Layout, Event, is_push, IsClosed, IsLegal}
use Rattle.wq_ledger.proofs.Common.{IsAllowed, is_queued_by, count_by-append, count_by-cons, SenderCounts, LedgerState, IsLedgerOf, largest}
use Rattle.wq_words.proofs.Closed.{closed_shuts}
use Rattle.wq_ledger.proofs.Meeting.{still_closed}

-- the push of a sender below n
abbrev pub is_queued_below : ℕ → Event → Bool
is_queued_below n (Push s k) = nat_lt s n
is_queued_below n _ = false

-- what is below the next number is below it, or it
pub cond_next : (a e : Bool) (m n x : ℕ) → nat_lt m n ≡ a → (m == n) ≡ e → cond {A = ℕ} (nat_lt m (n + 1)) x 0 ≡ cond a x 0 + cond e x 0
cond_next true true m n x lt eq = let low : m < n = ltb-true m n lt in let same : m ≡ n = eqb-true m n eq in absurd (omega arith)
cond_next true false m n x lt eq = let low : m < n = ltb-true m n lt in ap (λ (b : Bool). cond b x 0) (lt-ltb m (n + 1) (omega arith)) ∙ omega arith
cond_next false true m n x lt eq = let same : m ≡ n = eqb-true m n eq in ap (λ (b : Bool). cond b x 0) (lt-ltb m (n + 1) (omega arith)) ∙ omega arith
cond_next false false m n x lt eq =
    let high : n ≤ m = ltb-false m n lt in let other : m ≢ n = eqb-false m n eq in ap (λ (b : Bool). cond b x 0) (le-ltb m (n + 1) (omega arith)) ∙ omega arith

-- an event is a push, or no test of pushes passes it
by_push : (P : Event → Type 0) → ((s k : ℕ) → P (Push s k))
    → ((e : Event) → is_push e ≡ false → ((n : ℕ) → is_queued_below n e ≡ false) → ((n : ℕ) → is_queued_by n e ≡ false) → P e) → (e : Event) → P e
by_push P push other (Push s k) = push s k
by_push P push other (Hold s k) = other (Hold s k) refl (λ _. refl) (λ _. refl)
by_push P push other (Busy s k) = other (Busy s k) refl (λ _. refl) (λ _. refl)
by_push P push other (Back s k why) = other (Back s k why) refl (λ _. refl) (λ _. refl)
by_push P push other Take = other Take refl (λ _. refl) (λ _. refl)
by_push P push other Close = other Close refl (λ _. refl) (λ _. refl)
by_push P push other Drain = other Drain refl (λ _. refl) (λ _. refl)
by_push P push other Resume = other Resume refl (λ _. refl) (λ _. refl)
by_push P push other (Begin k) = other (Begin k) refl (λ _. refl) (λ _. refl)
by_push P push other (End k) = other (End k) refl (λ _. refl) (λ _. refl)
by_push P push other (Chain k) = other (Chain k) refl (λ _. refl) (λ _. refl)
by_push P push other (ChainBusy k) = other (ChainBusy k) refl (λ _. refl) (λ _. refl)
by_push P push other Rest = other Rest refl (λ _. refl) (λ _. refl)

one_below : (n : ℕ) (e : Event) → cond {A = ℕ} (is_queued_below (n + 1) e) 1 0 ≡ cond (is_queued_below n e) 1 0 + cond (is_queued_by n e) 1 0
one_below n =
    by_push (λ e. cond {A = ℕ} (is_queued_below (n + 1) e) 1 0 ≡ cond (is_queued_below n e) 1 0 + cond (is_queued_by n e) 1 0)
    (λ s k. cond_next (nat_lt s n) (s == n) s n 1 refl refl) (λ e _ below by. rw (below (n + 1), below n, by n) refl)

pub below_more : (n : ℕ) (h : List Event) → count_by (is_queued_below (n + 1)) h ≡ count_by (is_queued_below n) h + count_by (is_queued_by n) h
below_more n [] = refl
below_more n (e ∷ es) =
    omega (
      arith,
      count_by-cons (is_queued_below (n + 1)) e es,
      count_by-cons (is_queued_below n) e es,
      count_by-cons (is_queued_by n) e es,
      one_below n e,
      below_more n es,
    )

none_event : (e : Event) → cond {A = ℕ} (is_queued_below 0 e) 1 0 ≡ 0
none_event =
    by_push (λ e. cond {A = ℕ} (is_queued_below 0 e) 1 0 ≡ 0) (λ s k. ap (λ (b : Bool). cond b 1 0) (le-ltb s 0 (omega arith)))
    (λ e _ below _. rw (below 0) refl)

pub below_none : (h : List Event) → count_by (is_queued_below 0) h ≡ 0
below_none [] = refl
below_none (e ∷ es) = omega (arith, count_by-cons (is_queued_below 0) e es, none_event e, below_none es)

module _ (layout : Layout) where
  one_all : (h : List Event) (e : Event) → IsAllowed layout h e → cond {A = ℕ} (is_queued_below layout.senders e) 1 0 ≡ cond (is_push e) 1 0
  one_all h =
      by_push (λ e. IsAllowed layout h e → cond {A = ℕ} (is_queued_below layout.senders e) 1 0 ≡ cond (is_push e) 1 0)
      (λ s k a. ap (λ (b : Bool). cond b 1 0) (lt-ltb s layout.senders a.0)) (λ e none below _ _. rw (below layout.senders, none) refl)

  -- each push is of a sender of the queue
  pub below_all : (h : List Event) → IsLegal layout h → count_by (is_queued_below layout.senders) h ≡ count_by is_push h
  below_all = legal_induction layout (λ h. count_by (is_queued_below layout.senders) h ≡ count_by is_push h) refl
      (λ h e _ a same. omega (arith, count_by_push (is_queued_below layout.senders) h e, count_by_push is_push h e, one_all h e a, same))

  one_above : (s : ℕ) → layout.senders ≤ s → (h : List Event) (e : Event) → IsAllowed layout h e → cond {A = ℕ} (is_queued_by s e) 1 0 ≡ 0
  one_above s high h =
      by_push (λ e. IsAllowed layout h e → cond {A = ℕ} (is_queued_by s e) 1 0 ≡ 0) (λ t k a. other t (t == s) refl a.0) (λ e _ _ by _. rw (by s) refl)
    where
      other : (t : ℕ) (b : Bool) → (t == s) ≡ b → t < layout.senders → cond {A = ℕ} b 1 0 ≡ 0
      other t true is low = let same : t ≡ s = eqb-true t s is in absurd (omega arith)
      other t false is low = refl

  pub none_above : (s : ℕ) → layout.senders ≤ s → (h : List Event) → IsLegal layout h → count_by (is_queued_by s) h ≡ 0
  none_above s high = legal_induction layout (λ h. count_by (is_queued_by s) h ≡ 0) refl
      (λ h e _ a none. omega (arith, count_by_push (is_queued_by s) h e, one_above s high h e a, none))

  -- no push follows a close
  one_late : (v : List Event) → IsClosed v → (s : ℕ) (e : Event) → IsAllowed layout v e → cond {A = ℕ} (is_queued_by s e) 1 0 ≡ 0
  one_late v closed s =
      by_push (λ e. IsAllowed layout v e → cond {A = ℕ} (is_queued_by s e) 1 0 ≡ 0) (λ t k a. absurd (a.2.1 (closed_shuts v closed)))
      (λ e _ _ by _. rw (by s) refl)

  late_none : (s : ℕ) (v new : List Event) → IsLegal layout (v ++ new) → IsClosed v → count_by (is_queued_by s) new ≡ 0
  late_none s v [] legal closed = refl
  late_none s v (e ∷ new) legal closed =
      omega (
        arith,
        count_by-cons (is_queued_by s) e new,
        one_late v closed s e (legal_next layout v e new legal),
        late_none s (v ++ e ∷ []) new (legal_rest layout v e new legal) (still_closed v (e ∷ []) closed),
      )

  -- what a sender had pushed by the close it has pushed in all
  pub queued_made : (h : List Event) (ledger : LedgerState) → IsLegal layout h → IsLedgerOf h ledger → ledger.counts.queued ≢ largest
      → ledger.counts.queued ≡ count_by (is_queued_by ledger.number) h
  queued_made h ledger legal m whole =
      let s = ledger.number in let rest = m.before.0 in let is : m.met ++ rest ≡ h = m.before.1 in
      let late = late_none s m.met rest (subst (IsLegal layout) (sym is) legal) m.closed in
      let c : ledger.counts.queued ≡ min (count_by (is_queued_by s) m.met) 18446744073709551615 = ap (λ (z : SenderCounts). z.queued) m.counts_are in
      let parts = ap (count_by (is_queued_by s)) is in
      omega (arith, c, whole, late, parts, count_by-append (is_queued_by s) m.met rest)
