-- A history in which the seats of a race did what they do.
use Rattle.wq_race.proofs.Common.{◌≡◌, ℕ, zero, suc, ◌+◌, ◌*◌, ◌<◌, ◌≤◌, Bool, cond, List, [], ◌∷◌, length, refl, sym, ap, ◌∙◌, subst, arith, eq-eqb, count_by}
use Rattle.wq_race.proofs.Common.{length-range_with_len, sum_by-cons, Layout, Event, Hold, Busy, Push, Back, accepted, seat_of, own, count_own, is_queued_by}
use Rattle.wq_race.proofs.Common.{is_chain, items_among, is_queued_below, below_more, below_none, items_at, queueings, Chain, Why, RefusesFor}
use Rattle.wq_race.proofs.Pushed.{IsShared, has_counted, Whose, plans, workers, programs, whose, seat_few, of_stop, below_items, stop_high, items_pushed}
use Rattle.wq_words.proofs.Counting.{queued_own as push_own}
use Rattle.wq_race.proofs.Events.{Has, has_own, own_has, busy_set, IsSet, by_hold, by_chain, hold_seat, row_number, IsWithin, row_apart, row_pushed, same_row}

-- n senders queued m items each, and no seat but theirs, the program's and the owner's made an event
pub record IsRace (n m : ℕ) (layout : Layout) (h : List Event) : Type 0 where
  pub shared : IsShared n m layout h
  pub opens : (s k : ℕ) (cause : Why) → s < n → RefusesFor cause → ¬ Has (Back s k cause) (own s h)
  pub unsent : own n h ≡ []

pub queued_own : (s : ℕ) (h : List Event) → count_by (is_queued_by s) h ≡ count_by (is_queued_by s) (own s h)
queued_own s h = count_own (is_queued_by s) s (push_own s) h

pub pushes : (s : ℕ) (ks : List ℕ) → count_by (is_queued_by s) (queueings s ks) ≡ length ks
pushes s [] = refl
pushes s (k ∷ ks) =
    let p = λ (e : Event). cond {A = ℕ} (is_queued_by s e) 1 0 in
    let one : p (Push s k) ≡ 1 = ap (λ (b : Bool). cond {A = ℕ} b 1 0) (eq-eqb s s refl) in
    let none : p (Hold s k) ≡ 0 = refl in
    let size : length (k ∷ ks) ≡ length ks + 1 = omega arith in
    omega (arith, sum_by-cons p (Hold s k) (Push s k ∷ queueings s ks), sum_by-cons p (Push s k) (queueings s ks), one, none, pushes s ks, size)

pub length-queueings : (s : ℕ) (ks : List ℕ) → length (queueings s ks) ≡ 2 * length ks
length-queueings s [] = refl
length-queueings s (k ∷ ks) = omega (arith, length-queueings s ks)

module _ (n m : ℕ) (layout : Layout) (h : List Event) (r : IsRace n m layout h) where
  nothing_sent : (e : Event) → seat_of e ≡ n → Has e h → ⊥
  nothing_sent e at has = subst (Has e) (ap (λ (c : ℕ). own c h) at ∙ r.unsent) (has_own e h has)

  pub was_free : (s k : ℕ) → s < n → ¬ Has (Busy s k) (own s h)
  was_free s k lt has = each (busy_set layout s k h r.shared.legal (own_has s (Busy s k) h has))
    where
      mine : IsWithin (s * m) m k
      mine = row_number s (s * m) m (Busy s k) (own s h) (r.shared.queued s lt) has

      by : (t : ℕ) → Has (Hold t k) h → Whose n t → ⊥
      by t hold (plans low) =
          let at = has_own (Hold t k) h hold in
          let same : s ≡ t = same_row s t m k mine (row_number t (t * m) m (Hold t k) (own t h) (r.shared.queued t low) at) in
          row_apart s (s * m) m t s k (own s h) (r.shared.queued s lt) (subst (λ (c : ℕ). Has (Hold t k) (own c h)) (sym same) at) has
      by t hold (workers is) = nothing_sent (Hold t k) is hold
      by t hold (programs is) = let high = stop_high n m layout h r.shared k (of_stop n m layout h r.shared (Hold t k) is hold) in
          omega (arith, high, below_items n m layout h r.shared s k lt mine)

      each : IsSet k h → ⊥
      each (by_hold t hold) = by t hold (whose n t (seat_few n m layout h r.shared t (hold_seat layout t k h r.shared.legal hold)))
      each (by_chain chain) = omega (arith, has_counted is_chain (Chain k) h refl chain, r.shared.unchained)

  -- each sender's items were found free, and none was refused
  pub was_queued : (s : ℕ) → s < n → own s h ≡ queueings s (items_at s m)
  was_queued s lt = row_pushed s (s * m) m (own s h) (λ k. was_free s k lt) (λ k cause. r.opens s k cause lt) (r.shared.queued s lt)

  queued_counted : (s : ℕ) → s < n → count_by (is_queued_by s) h ≡ m
  queued_counted s lt = queued_own s h ∙ (ap (count_by (is_queued_by s)) (was_queued s lt) ∙ (pushes s (items_at s m) ∙ length-range_with_len (s * m) m))

  pub below_counted : (c : ℕ) → c ≤ n → count_by (is_queued_below c) h ≡ c * m
  below_counted zero le = below_none h ∙ omega arith
  below_counted (suc c) le =
      let next : c + 1 ≡ suc c = omega arith in
      let more : count_by (is_queued_below (suc c)) h ≡ count_by (is_queued_below (c + 1)) h = ap (λ (k : ℕ). count_by (is_queued_below k) h) (sym next) in
      let step : suc c * m ≡ c * m + m = omega arith in
      omega (arith, more, below_more c h, below_counted c (omega (arith, le)), queued_counted c (omega (arith, le)), step)

  -- as many items were accepted as the senders have
  pub all_accepted : length (items_among layout (accepted h)) ≡ n * m
  all_accepted = items_pushed n m layout h r.shared ∙ below_counted n (omega arith)
