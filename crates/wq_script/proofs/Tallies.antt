-- Counts of a history that goes on.
use Rattle.wq_script.proofs.Common.{◌≡◌, ◌≢◌, ℕ, ◌+◌, ◌<◌, ◌≤◌, Bool, true, false, cond, not, ◌||◌, ◌==◌, List, [], ◌∷◌, ◌++◌, length, refl, sym, ap, ◌∙◌}
use Rattle.wq_script.proofs.Common.{subst, arith, append_assoc, count_by, ne_eqb, filter, AllByRecursion, append-nil, false≢true, Layout, Event, Hold, Busy}
use Rattle.wq_script.proofs.Common.{Push, Back, Take, Close, Drain, Resume, Begin, End, Chain, ChainBusy, Rest, begun, ended, is_push, IsRunning, IsLegal}
use Rattle.wq_script.proofs.Common.{HasSeat, legal_next}
use Rattle.wq_script.proofs.Common.{owner_seat, seat_of, is_queued_by, is_pending_by, is_closed_by, is_draining_by, is_chain_busy, is_ours, is_busy, is_refusal}
use Rattle.wq_script.proofs.Common.{count_by-append, begun-append, ended-append, Tally, Tallied}
use Rattle.wq_words.specs.declared.event.Why.TheVariants as why

-- events of a seat that is neither the worker's sender nor the owner
pub record Foreign (w : ℕ) (es : List Event) : Type 0 where
  pub queued : count_by (is_queued_by w) es ≡ 0
  pub pending : count_by (is_pending_by w) es ≡ 0
  pub refused : count_by (is_closed_by w) es ≡ 0
  pub draining : count_by (is_draining_by w) es ≡ 0
  pub chain_busy : count_by is_chain_busy es ≡ 0
  pub begun : begun es ≡ []
  pub ended : ended es ≡ []

one_foreign : (w : ℕ) (e : Event) → seat_of e ≢ w → seat_of e ≢ owner_seat → Foreign w (e ∷ [])
one_foreign w (Hold s k) a b = record { queued = refl; pending = refl; refused = refl; draining = refl; chain_busy = refl; begun = refl; ended = refl }
one_foreign w (Busy s k) a b = record {
  queued = refl;
  pending = ap (λ (x : Bool). 0 + cond {A = ℕ} x 1 0) (ne_eqb s w a);
  refused = refl;
  draining = refl;
  chain_busy = refl;
  begun = refl;
  ended = refl;
}
one_foreign w (Push s k) a b = record {
  queued = ap (λ (x : Bool). 0 + cond {A = ℕ} x 1 0) (ne_eqb s w a);
  pending = refl;
  refused = refl;
  draining = refl;
  chain_busy = refl;
  begun = refl;
  ended = refl;
}
one_foreign w (Back s k why.Closed) a b = record {
  queued = refl;
  pending = refl;
  refused = ap (λ (x : Bool). 0 + cond {A = ℕ} x 1 0) (ne_eqb s w a);
  draining = refl;
  chain_busy = refl;
  begun = refl;
  ended = refl;
}
one_foreign w (Back s k why.Contended) a b =
    record { queued = refl; pending = refl; refused = refl; draining = refl; chain_busy = refl; begun = refl; ended = refl }
one_foreign w (Back s k why.Cancelled) a b =
    record { queued = refl; pending = refl; refused = refl; draining = refl; chain_busy = refl; begun = refl; ended = refl }
one_foreign w (Back s k why.Draining) a b = record {
  queued = refl;
  pending = refl;
  refused = refl;
  draining = ap (λ (x : Bool). 0 + cond {A = ℕ} x 1 0) (ne_eqb s w a);
  chain_busy = refl;
  begun = refl;
  ended = refl;
}
one_foreign w Take a b = absurd (b refl)
one_foreign w Close a b = absurd (b refl)
one_foreign w Drain a b = absurd (b refl)
one_foreign w Resume a b = absurd (b refl)
one_foreign w (Begin k) a b = absurd (b refl)
one_foreign w (End k) a b = absurd (b refl)
one_foreign w (Chain k) a b = absurd (b refl)
one_foreign w (ChainBusy k) a b = absurd (b refl)
one_foreign w Rest a b = absurd (b refl)

pub all_foreign : (w s : ℕ) (es : List Event) → s ≢ w → s ≢ owner_seat → AllByRecursion (λ e. seat_of e ≡ s) es → Foreign w es
all_foreign w s [] a b all = record { queued = refl; pending = refl; refused = refl; draining = refl; chain_busy = refl; begun = refl; ended = refl }
all_foreign w s (e ∷ es) a b all =
    let one = one_foreign w e (λ is. a (sym all.0 ∙ is)) (λ is. b (sym all.0 ∙ is)) in
    let rest = all_foreign w s es a b all.1 in
    record {
      queued = omega (arith, count_by-append (is_queued_by w) (e ∷ []) es, one.queued, rest.queued);
      pending = omega (arith, count_by-append (is_pending_by w) (e ∷ []) es, one.pending, rest.pending);
      refused = omega (arith, count_by-append (is_closed_by w) (e ∷ []) es, one.refused, rest.refused);
      draining = omega (arith, count_by-append (is_draining_by w) (e ∷ []) es, one.draining, rest.draining);
      chain_busy = omega (arith, count_by-append is_chain_busy (e ∷ []) es, one.chain_busy, rest.chain_busy);
      begun = begun-append (e ∷ []) es ∙ (λ i. one.begun i ++ rest.begun i);
      ended = ended-append (e ∷ []) es ∙ (λ i. one.ended i ++ rest.ended i);
    }

pub tallied_on : (t u : Tally) (w : ℕ) (h es : List Event) → Tallied t w h → Foreign w es → u.queued ≡ t.queued + count_by is_push es
    → u.busy ≡ t.busy + count_by is_busy es → u.refused ≡ t.refused + count_by is_refusal es → Tallied u w (h ++ es)
tallied_on t u w h es told f q b r = record {
  queued = omega (arith, told.queued, f.queued, q, count_by-append (is_queued_by w) h es, count_by-append is_push h es);
  busy = omega (
    arith,
    told.busy,
    f.pending,
    f.chain_busy,
    b,
    count_by-append (is_pending_by w) h es,
    count_by-append is_chain_busy
        h es,
    count_by-append is_busy h es,
  );
  refused = omega (
    arith,
    told.refused,
    f.refused,
    f.draining,
    r,
    count_by-append (is_closed_by w) h es,
    count_by-append (is_draining_by w) h es,
    count_by-append is_refusal h es,
  );
}

pub idle_on : (w : ℕ) (h es : List Event) → Foreign w es → ¬ IsRunning h → ¬ IsRunning (h ++ es)
idle_on w h es f idle runs =
    let b : begun (h ++ es) ≡ begun h = begun-append h es ∙ (ap (λ (x : List ℕ). begun h ++ x) f.begun ∙ append-nil (begun h)) in
    let e : ended (h ++ es) ≡ ended h = ended-append h es ∙ (ap (λ (x : List ℕ). ended h ++ x) f.ended ∙ append-nil (ended h)) in
    idle (omega (arith, runs, ap length b, ap length e))

-- each sender of a legal history is one of the queue's
pub legal_has : (layout : Layout) (h es : List Event) → IsLegal layout (h ++ es) → AllByRecursion (HasSeat layout) es
legal_has layout h [] legal = tt
legal_has layout h (e ∷ es) legal = (
  (legal_next layout h e es legal).0,
  legal_has layout (h ++ e ∷ []) es
      (subst (λ (x : List Event). IsLegal layout x) (sym (append_assoc h (e ∷ []) es)) legal),
)

-- the worker's events are what it counts
pub record Own (w : ℕ) (es : List Event) : Type 0 where
  pub queued : count_by (is_queued_by w) es ≡ count_by is_push es
  pub busy : count_by (is_pending_by w) es + count_by is_chain_busy es ≡ count_by is_busy es
  pub refused : count_by (is_closed_by w) es + count_by (is_draining_by w) es ≡ count_by is_refusal es

sender_ours : (layout : Layout) (w s : ℕ) → layout.senders ≤ 64 → s < layout.senders → not ((s == w) || (s == owner_seat)) ≡ false → (s == w) ≡ true
sender_ours layout w s few lt ours = each (s == w) (s == owner_seat) (ne_eqb s owner_seat (λ is. absurd (omega (arith, is, few, lt)))) ours
  where
    each : (a b : Bool) → b ≡ false → not (a || b) ≡ false → a ≡ true
    each true b off is = refl
    each false b off is = absurd (false≢true (sym is ∙ ap not off))

one_own : (layout : Layout) (w : ℕ) (e : Event) → layout.senders ≤ 64 → HasSeat layout e → not (is_ours w e) ≡ false → Own w (e ∷ [])
one_own layout w (Hold s k) few has ours = record { queued = refl; busy = refl; refused = refl }
one_own layout w (Busy s k) few has ours =
    record { queued = refl; busy = ap (λ (x : Bool). (0 + cond {A = ℕ} x 1 0) + 0) (sender_ours layout w s few has ours); refused = refl }
one_own layout w (Push s k) few has ours =
    record { queued = ap (λ (x : Bool). 0 + cond {A = ℕ} x 1 0) (sender_ours layout w s few has ours); busy = refl; refused = refl }
one_own layout w (Back s k why.Closed) few has ours =
    record { queued = refl; busy = refl; refused = ap (λ (x : Bool). (0 + cond {A = ℕ} x 1 0) + 0) (sender_ours layout w s few has ours) }
one_own layout w (Back s k why.Contended) few has ours = record { queued = refl; busy = refl; refused = refl }
one_own layout w (Back s k why.Cancelled) few has ours = record { queued = refl; busy = refl; refused = refl }
one_own layout w (Back s k why.Draining) few has ours =
    record { queued = refl; busy = refl; refused = ap (λ (x : Bool). 0 + (0 + cond {A = ℕ} x 1 0)) (sender_ours layout w s few has ours) }
one_own layout w Take few has ours = record { queued = refl; busy = refl; refused = refl }
one_own layout w Close few has ours = record { queued = refl; busy = refl; refused = refl }
one_own layout w Drain few has ours = record { queued = refl; busy = refl; refused = refl }
one_own layout w Resume few has ours = record { queued = refl; busy = refl; refused = refl }
one_own layout w (Begin k) few has ours = record { queued = refl; busy = refl; refused = refl }
one_own layout w (End k) few has ours = record { queued = refl; busy = refl; refused = refl }
one_own layout w (Chain k) few has ours = record { queued = refl; busy = refl; refused = refl }
one_own layout w (ChainBusy k) few has ours = record { queued = refl; busy = refl; refused = refl }
one_own layout w Rest few has ours = record { queued = refl; busy = refl; refused = refl }

none_first : {A : Type 0} (b : Bool) (x : A) (xs : List A) → cond b (x ∷ xs) xs ≡ [] → (b ≡ false) × (xs ≡ [])
none_first true x xs is = absurd (cc)
none_first false x xs is = (refl, is)

pub all_own : (layout : Layout) (w : ℕ) (es : List Event) → layout.senders ≤ 64 → AllByRecursion (HasSeat layout) es
    → filter (λ e. not (is_ours w e)) es ≡ [] → Own w es
all_own layout w [] few has none = record { queued = refl; busy = refl; refused = refl }
all_own layout w (e ∷ es) few has none =
    let first = none_first (not (is_ours w e)) e (filter (λ e. not (is_ours w e)) es) none in
    let one = one_own layout w e few has.0 first.0 in
    let rest = all_own layout w es few has.1 first.1 in
    record {
      queued = omega (arith, one.queued, rest.queued, count_by-append (is_queued_by w) (e ∷ []) es, count_by-append is_push (e ∷ []) es);
      busy = omega (
        arith,
        one.busy,
        rest.busy,
        count_by-append (is_pending_by w) (e ∷ []) es,
        count_by-append is_chain_busy
            (e ∷ []) es,
        count_by-append is_busy (e ∷ []) es,
      );
      refused = omega (
        arith,
        one.refused,
        rest.refused,
        count_by-append (is_closed_by w) (e ∷ []) es,
        count_by-append (is_draining_by w) (e ∷ []) es,
        count_by-append is_refusal (e ∷ []) es,
      );
    }

pub tallied_own : (t : Tally) (w : ℕ) (h es : List Event) → Tallied t w h → Own w es → Tallied t w (h ++ es)
tallied_own t w h es told own = record {
  queued = omega (arith, told.queued, own.queued, count_by-append (is_queued_by w) h es, count_by-append is_push h es);
  busy = omega (arith, told.busy, own.busy, count_by-append (is_pending_by w) h es, count_by-append is_chain_busy h es, count_by-append is_busy h es);
  refused = omega (
    arith,
    told.refused,
    own.refused,
    count_by-append (is_closed_by w) h es,
    count_by-append (is_draining_by w) h es,
    count_by-append is_refusal h es,
  );
}
