-- Who keeps a number, and how often the owner has it, while events come.
use Rattle.wq_table.proofs.Common.{◌≡◌, ◌≢◌, ℕ, ◌+◌, ◌<◌, ◌≤◌, ◌==◌, Bool, true, false, cond, List, [], ◌∷◌, ◌++◌, length, slice_get, Some, None, sym}
use Rattle.wq_table.proofs.Common.{refl, ap, ◌∙◌, subst, arith, ⊎_elim, append-nil, eqb-false, IsPrefix, Event, Layout, number_count, accepted, begun}
use Rattle.wq_table.proofs.Common.{Keeper, Home, keeper, Machine, IsSound, times-cons, times-append, IsAway, taken_times}
use Rattle.std.proofs.lemmas.Bool.{eq-eqb}
use mathlib.Core.List.{reverse_aux}
use Rattle.std.specs.Prelude.{reverse}
use Rattle.wq_words.specs.History.{begun_by}
use Rattle.wq_words.specs.Legal.{IsLegal}
use Rattle.wq_words.specs.Keeper.{Sender, Listed, Owner, taken_over}
use Rattle.wq_words.proofs.Growing.{filter_map_push_none}
use Rattle.wq_words.proofs.Keepers.{IsQueue, queue_from_bit, kept}
use Rattle.wq_words.proofs.Order.{in_order}
use Rattle.wq_words.proofs.Places.{counted_twice, keeps_from_keeper}
use Rattle.wq_core.specs.Sound.{AreChained, IsChain}
use Rattle.wq_words.proofs.Times.{times, times-reverse_aux, times-first}
use Rattle.wq_words.specs.Listed.{listed}
use Rattle.wq_core.proofs.KeptSound.{away_from_sender}
use Rattle.wq_words.proofs.Keepers.{keeper_push, LeavesWith}
use Rattle.wq_words.proofs.Accepted.{queue_once}
use Rattle.wq_table.specs.Slots.{IsSenders}

-- a number that waits has one place
module _ (layout : Layout) (h : List Event) (legal : IsLegal layout h) (k : ℕ) where
  front : IsPrefix (begun h) (accepted h)
  front = (in_order layout h legal).begun_first

  pub waiting_once : (i l : ℕ) → length (begun h) ≤ i → i < l → slice_get (accepted h) i ≡ Some k → slice_get (accepted h) l ≡ Some k → ⊥
  waiting_once i l le lt at there =
      absurd (omega (arith, (kept layout h legal 0 k).2, queue_once (keeper h k), counted_twice (begun h) (accepted h) k i l front le lt at there))

  -- what is accepted more often than begun has a place
  pub waiting_place : (x : Keeper) → keeper h k ≡ x → IsQueue x → (i : ℕ) × (length (begun h) ≤ i) × (slice_get (accepted h) i ≡ Some k)
  waiting_place Home is queue = absurd queue
  waiting_place (Sender s) is queue = absurd queue
  waiting_place Listed is queue = let w = keeps_from_keeper layout h legal k Listed is in (w.0, w.1, w.3)
  waiting_place Owner is queue = let w = keeps_from_keeper layout h legal k Owner is in (w.0, w.1, w.3)

pub queue_home : (x : Keeper) → IsQueue x → x ≡ Home → ⊥
queue_home x queue is = let q : IsQueue Home = subst IsQueue is queue in q

pub queue_sender : (x : Keeper) (s : ℕ) → IsQueue x → x ≡ Sender s → ⊥
queue_sender x s queue is = let q : IsQueue (Sender s) = subst IsQueue is queue in q

module _ (h : List Event) (e : Event) (k : ℕ) where
  -- the event leaves k away from home
  pub gone : (y : Keeper) → LeavesWith k e y → y ≢ Home → (j : ℕ) → keeper (h ++ e ∷ []) j ≡ Home → (j ≢ k) × (keeper h j ≡ Home)
  gone y g ne j at =
      let other : j ≢ k = λ same. ne (sym (g.1 (keeper h k)) ∙ (sym (keeper_push h e k) ∙ (ap (keeper (h ++ e ∷ [])) (sym same) ∙ at))) in
      (other, sym (g.0 j (keeper h j) other) ∙ (sym (keeper_push h e j) ∙ at))

  -- the event is about k alone
  pub came : (y : Keeper) → LeavesWith k e y → (j : ℕ) → keeper (h ++ e ∷ []) j ≡ Home → j ≢ k → keeper h j ≡ Home
  came y g j at other = sym (g.0 j (keeper h j) other) ∙ (sym (keeper_push h e j) ∙ at)

pub begun_same : (h : List Event) (e : Event) → begun_by e ≡ None → begun (h ++ e ∷ []) ≡ begun h
begun_same h e none_begun = filter_map_push_none begun_by h e none_begun ∙ append-nil (begun h)

pub over_home : (x : Keeper) → taken_over x ≡ Home → x ≡ Home
over_home Home is = refl
over_home (Sender s) is = absurd cc
over_home Listed is = absurd cc
over_home Owner is = absurd cc

pub split_count : (k : ℕ) (acc beg batch tail lst : List ℕ) → acc ≡ beg ++ (batch ++ tail) ++ lst
    → times k acc ≡ times k beg + (times k batch + times k tail) + times k lst
split_count k acc beg batch tail lst order = omega (
  arith,
  ap (times k) order,
  times-append k (beg ++ (batch ++ tail)) lst,
  times-append k beg (batch ++ tail),
  times-append k batch tail,
)

-- the number that the owner walks next waits, and is not among what it walked or has in its batch
pub cursor_count : (n : ℕ) (ws : List ℕ) (k : ℕ) (walked batch acc beg lst : List ℕ) → AreChained n ws (Some k) walked batch acc beg lst
    → times k beg + (times k walked + times k batch) + 1 ≤ times k acc
cursor_count n ws k walked batch acc beg lst a = go a.remaining a.walk_chain a.order
  where
    go : (remaining : List ℕ) → IsChain n ws (k + 1) remaining → acc ≡ beg ++ (batch ++ reverse_aux remaining walked) ++ reverse lst
        → times k beg + (times k walked + times k batch) + 1 ≤ times k acc
    go [] c order = absurd (omega (arith, c))
    go (i ∷ rest) c order =
        let one : cond {A = ℕ} (i == k) 1 0 ≡ 1 = ap {B = ℕ} (λ (q : Bool). cond q 1 0) (eq-eqb i k (omega (arith, c.0))) in
        omega (
          arith,
          split_count k acc beg batch (reverse_aux (i ∷ rest) walked) (reverse lst) order,
          times-reverse_aux k
              (i ∷ rest) walked,
          times-cons k i rest,
          one,
        )

pub cursor_waits : (m : Machine) → IsSound m → (k : ℕ) → m.cursor ≡ Some k → IsQueue (keeper m.history k) × (times k m.walked + times k m.batch ≡ 0)
cursor_waits m o k on =
    let count = cursor_count (number_count m.layout) m.words k m.walked m.batch _ _ _ (rw on at o.chains) in
    let tells = (kept m.layout m.history o.legal 0 k).2 in
    let once = queue_once (keeper m.history k) in
    (queue_from_bit (keeper m.history k) (omega (arith, count, tells)), omega (arith, count, tells, once))

pub not_counted : (j k : ℕ) (q : Bool) → (k == j) ≡ q → ◌≡◌ {A = ℕ} (cond q 1 0) 0 → j ≢ k
not_counted j k true e zero = absurd (omega (arith, zero))
not_counted j k false e zero = λ same. eqb-false k j e (sym same)

-- the first of the batch stands in it once
pub batch_once : (m : Machine) → IsSound m → (k : ℕ) (ks : List ℕ) → m.batch ≡ k ∷ ks → times k ks ≡ 0
batch_once m o k ks first =
    let tells = (kept m.layout m.history o.legal 0 k).2 in
    let once = queue_once (keeper m.history k) in
    let c = o.chains in
    let split = split_count k (accepted m.history) (begun m.history) m.batch (reverse_aux c.remaining m.walked) (reverse (listed m.history)) c.order in
    let batch : times k m.batch ≡ times k (k ∷ ks) = ap (times k) first in
    omega (arith, tells, once, split, batch, times-first k ks)

pub over_sends : (x : Keeper) → IsSenders (taken_over x) → IsSenders x
over_sends Home is = is
over_sends (Sender s) is = is
over_sends Listed is = absurd is
over_sends Owner is = is

-- the event is about k alone: another number is away as before
pub away_other : (h : List Event) (e : Event) (k : ℕ) (y : Keeper) (n n' : ℕ) → LeavesWith k e y → (j : ℕ) → j ≢ k → n ≡ n'
    → IsAway (keeper (h ++ e ∷ []) j) n' → IsAway (keeper h j) n
away_other h e k y n n' g j other same is = subst (λ (z : Keeper × ℕ). IsAway z.0 z.1) (λ i. (
  (keeper_push h e j ∙
      g.0 j (keeper h j) other) i,
  sym same i,
)) is

-- the event leaves k at no sender, and the owner has it not
pub away_gone : (h : List Event) (e : Event) (k : ℕ) (y : Keeper) (out out' : ℕ → ℕ) → LeavesWith k e y → (IsSenders y → ⊥) → out' k ≡ 0 → ((j : ℕ) → j ≢ k
    → out j ≡ out' j)
    → (j : ℕ) → IsAway (keeper (h ++ e ∷ []) j) (out' j) → (j ≢ k) × IsAway (keeper h j) (out j)
away_gone h e k y out out' g none_sends zero same j is =
    let other : j ≢ k = λ e'. ⊎_elim
    (λ (x : IsSenders (keeper (h ++ e ∷ []) j)). none_sends (subst IsSenders (ap (keeper (h ++ e ∷ [])) e' ∙ (keeper_push h e k ∙ g.1 (keeper h k))) x))
    (λ (n : 0 < out' j). absurd (omega (arith, n, ap out' e', zero))) is in
    (other, away_other h e k y (out j) (out' j) g j other (same j other) is)

-- what a sender holds the owner has not
pub held_none_out : (m : Machine) → IsSound m → (s k : ℕ) → keeper m.history k ≡ Sender s → taken_times m.walked m.batch k ≡ 0
held_none_out m o s k mine =
    let c = o.chains in
    let split = split_count k (accepted m.history) (begun m.history) m.batch (reverse_aux c.remaining m.walked) (reverse (listed m.history)) c.order in
    omega (arith, away_from_sender m o s k mine, split, times-reverse_aux k c.remaining m.walked)
