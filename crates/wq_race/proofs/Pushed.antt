-- What was accepted where senders share the items of a queue out.
use Rattle.wq_race.proofs.Common.{nat_lt, ◌≡◌, ℕ, ◌+◌, ◌*◌, ◌<◌, ◌≤◌, Bool, cond, List, [], ◌∷◌, ◌++◌, length, inl, inr, refl, sym, ap, ◌∙◌, subst}
use Rattle.wq_race.proofs.Common.{arith, eq-eqb, length-append, count_by, AllByRecursion, cases_lt, lt-ltb, le-ltb, filter_map-append, filter-append}
use Rattle.wq_race.proofs.Common.{sum_by-cons, Layout, Event, Push, Chain, stop_number, accepted_by}
use Rattle.wq_race.proofs.Common.{accepted, IsLegal, seat_of, own, is_queued_by, is_chain, items_among, SendsAll, items_among-item, items_among-other}
use Rattle.wq_race.proofs.Common.{is_queued_below, IsLayoutOf, items_at, IsOfStop, true}
use Rattle.wq_race.proofs.Running.{own_room}
use Rattle.wq_race.proofs.Events.{Has, has_own, push_seat, row_number, IsWithin}

-- n senders queued m items each, and but for the program's sender, which queued the stop item, nobody pushed or chained
pub record IsShared (n m : ℕ) (layout : Layout) (h : List Event) : Type 0 where
  pub sized : IsLayoutOf n m layout
  pub legal : IsLegal layout h
  pub queued : (s : ℕ) → s < n → SendsAll s (items_at s m) (own s h)
  pub unpushed : count_by (is_queued_by n) h ≡ 0
  pub unchained : count_by is_chain h ≡ 0
  pub stops : AllByRecursion (IsOfStop layout) (own (n + 1) h)

pub has_counted : (p : Event → Bool) (e : Event) (h : List Event) → p e ≡ true → Has e h → 0 < count_by p h
has_counted p e [] holds has = absurd has
has_counted p e (x ∷ xs) holds (inl is) = let here : p x ≡ true = ap p (sym is) ∙ holds in
    let one : cond {A = ℕ} (p x) 1 0 ≡ 1 = ap (λ (b : Bool). cond {A = ℕ} b 1 0) here in omega (arith, one, sum_by-cons (λ e. cond (p e) 1 0) x xs)
has_counted p e (x ∷ xs) holds (inr has) = omega (arith, has_counted p e xs holds has, sum_by-cons (λ e. cond (p e) 1 0) x xs)

stop_of : (layout : Layout) (e : Event) (es : List Event) → AllByRecursion (IsOfStop layout) es → Has e es → IsOfStop layout e
stop_of layout e [] all has = absurd has
stop_of layout e (x ∷ xs) all (inl is) = subst (IsOfStop layout) (sym is) all.0
stop_of layout e (x ∷ xs) all (inr has) = stop_of layout e xs all.1 has

-- a sender's seat is one of the plan's, the worker's or the program's
pub data Whose (n s : ℕ) : Type 0 where
  plans : s < n → Whose n s
  workers : s ≡ n → Whose n s
  programs : s ≡ n + 1 → Whose n s

pub whose : (n s : ℕ) → s < n + 2 → Whose n s
whose n s lt = elim (cases_lt s n) [
  | inl less ↦ plans less
  | inr ge ↦ elim (cases_lt n s) [
    | inl more ↦ programs (omega (arith, lt, more))
    | inr le ↦ workers (omega (arith, ge, le))
  ]
]

module _ (n m : ℕ) (layout : Layout) (h : List Event) (r : IsShared n m layout h) where
  pub seat_few : (s : ℕ) → s < layout.senders → s < n + 2
  seat_few s lt = omega (arith, lt, r.sized.senders_is)

  pub of_stop : (e : Event) → seat_of e ≡ n + 1 → Has e h → IsOfStop layout e
  of_stop e at has = stop_of layout e (own (n + 1) h) r.stops (subst (λ (c : ℕ). Has e (own c h)) at (has_own e h has))

  pub below_items : (s k : ℕ) → s < n → IsWithin (s * m) m k → k < layout.items
  below_items s k lt w = omega (arith, own_room s n m lt, w.1, r.sized.items_is)

  pub stop_high : (k : ℕ) → k ≡ stop_number layout → layout.items ≤ k
  stop_high k is = omega (arith, is)

  agree : (e : Event) → Has e h → length (items_among layout (accepted (e ∷ []))) ≡ cond (is_queued_below n e) 1 0
  agree (Push t k) has = each (whose n t (seat_few t (push_seat layout t k h r.legal has)))
    where
      each : Whose n t → length (items_among layout (k ∷ [])) ≡ cond (nat_lt t n) 1 0
      each (plans low) =
          let w = row_number t (t * m) m (Push t k) (own t h) (r.queued t low) (has_own (Push t k) h has) in
          ap length (items_among-item layout k (below_items t k low w)) ∙ sym (ap (λ (b : Bool). cond b 1 0) (lt-ltb t n low))
      each (workers is) = omega (
        arith,
        has_counted (is_queued_by t) (Push t k) h (eq-eqb t t refl) has,
        ap (λ (c : ℕ). count_by (is_queued_by c) h) is,
        r.unpushed,
      )
      each (programs is) =
          let past : n ≤ t = omega (arith, is) in
          ap length (items_among-other layout k (stop_high k (of_stop (Push t k) is has))) ∙ sym (ap (λ (b : Bool). cond b 1 0) (le-ltb t n past))
  agree (Chain k) has = absurd (omega (arith, has_counted is_chain (Chain k) h refl has, r.unchained))
  agree _ has = refl

  items_counted : (es : List Event) → ((e : Event) → Has e es → length (items_among layout (accepted (e ∷ []))) ≡ cond (is_queued_below n e) 1 0)
      → length (items_among layout (accepted es)) ≡ count_by (is_queued_below n) es
  items_counted [] all = refl
  items_counted (e ∷ es) all =
      let one = all e (inl refl) in let rest = items_counted es (λ f has. all f (inr has)) in
      let parts : items_among layout (accepted (e ∷ es)) ≡ items_among layout (accepted (e ∷ [])) ++ items_among layout (accepted es) =
      ap (items_among layout) (filter_map-append accepted_by (e ∷ []) es) ∙ filter-append (λ k. nat_lt k layout.items) (accepted (e ∷ [])) (accepted es) in
      omega (
        arith,
        ap length parts,
        length-append (items_among layout (accepted (e ∷ []))) (items_among layout (accepted es)),
        one,
        rest,
        sum_by-cons (λ x. cond (is_queued_below n x) 1 0) e es,
      )

  -- the items that were accepted are those that the senders pushed
  pub items_pushed : length (items_among layout (accepted h)) ≡ count_by (is_queued_below n) h
  items_pushed = items_counted h agree
