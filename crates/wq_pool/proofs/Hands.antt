-- What a seat has in hand, before and after its steps.
use mathlib.Core.Option.{none}
use Rattle.atomic_table.specs.Seated.{TableId}
use Rattle.wq_pool.specs.Views.{IsInHand}
use Rattle.wq_pool.proofs.Common.{◌≡◌, ℕ, ◌<◌, Bool, true, List, [], ◌∷◌, ◌++◌, map, get_or, replicate, Option, Some, None, MatchBool, sym, refl, ap, ◌∙◌, subst, eq-eqb}
use Rattle.wq_pool.proofs.Common.{map-append, step, Allows, rest}
use Rattle.wq_pool.proofs.Common.{WorkerState, HandedIn, IsHandedAt, KeptSlots, empty_hand, hand_with, SlotSat, picks_up, lays_down}
use Rattle.wq_pool.proofs.Kept.{lays_allowed}

pub zeros : (words : List ℕ) (n m : ℕ) → words ≡ replicate n 0 → n ≡ m → words ≡ replicate m 0
zeros words n m is same = subst (λ (k : ℕ). words ≡ replicate k 0) same is

pub front_of : {A : Type 0} (xs : List (ℕ × A)) (q : ℕ) (x : A) → xs ≡ (q, x) ∷ [] → xs ≡ (q, x) ∷ rest xs
front_of xs q x is = is ∙ ap (λ z. (q, x) ∷ rest z) (sym is)

-- one slot more is filled
pub filled_next : {K : Type 0} (queues : List K) (queue : K) (slots new : List (Option K)) → slots ≡ map Some queues → new ≡ slots ++ Some queue ∷ []
    → new ≡ map Some (queues ++ queue ∷ [])
filled_next queues queue slots new all is =
    is ∙ (ap (λ (xs : List (Option _)). xs ++ Some queue ∷ []) all ∙ sym (map-append Some queues (queue ∷ [])))

module _ {K W : Type 0} (state : K → WorkerState W) (deals : K → K → Type 0) where
  -- where the word was 0 a seat that had nothing in hand has the queue
  pub has_picked : (handed : HandedIn K) (q found : ℕ) (old new : SlotSat K) → found ≡ 0 → old ≡ (empty_hand handed, [])
      → picks_up state deals (step 0 q 0 1 none) old found new
      → (new.0 ≡ hand_with handed q) × (w : K) × (new.1 ≡ (q, Some w) ∷ []) × IsHandedAt state deals handed q w
  has_picked handed q found old new is_zero was told =
      let Told : Bool → HandedIn K → Type 0 = λ b ids.
      MatchBool b ((new.0 ≡ hand_with ids q) × (w : K) × (new.1 ≡ (q, Some w) ∷ []) × IsHandedAt state deals ids q w) (new ≡ old) in
      subst (λ (ids : HandedIn K). Told true ids) (ap (λ (m : SlotSat K). m.0.handed) was)
      (subst (λ (b : Bool). Told b old.0.handed) (eq-eqb found 0 is_zero) told)

  -- what it takes out of the slot is the worker of the queue that it has picked up
  pub has_taken : (handed : HandedIn K) (q : ℕ) (me : SlotSat K) (w served runs : K) → me.1 ≡ (q, Some w) ∷ [] → IsHandedAt state deals handed q w
      → me.1 ≡ (q, Some served) ∷ rest me.1 → runs ≡ served → IsHandedAt state deals handed q runs
  has_taken handed q me w served runs was worker_is taken same =
      let found : Some w ≡ Some served = ap (λ (xs : List (ℕ × Option K)). (get_or xs 0 (q, None)).1) (sym was ∙ taken) in
      let is : w ≡ runs = cc in
      subst (λ (k : K). IsHandedAt state deals handed q k) is worker_is

  -- the slot is empty then, and the worker in hand
  pub has_in_hand : (handed : HandedIn K) (id : TableId) (q : ℕ) (old new : SlotSat K) (w runs : K) → old.0 ≡ hand_with handed q
      → old.1 ≡ (q, Some w) ∷ [] → new ≡ (old.0, (q, None) ∷ rest old.1) → q < id.words → IsHandedAt state deals handed q runs
      → IsInHand state deals id new q runs
  has_in_hand handed id q old new w runs hand slot is within worker_is =
      let now : new ≡ (hand_with handed q, (q, None) ∷ []) = is ∙ (λ i. (hand i, (q, None) ∷ rest (slot i))) in
      subst (λ (me : SlotSat K). IsInHand state deals id me q runs) (sym now) (record { taken = refl; within = within; worker_is = worker_is })

  -- a seat whose queue lies in the slot again lays it down
  pub lays_filled : (handed : HandedIn K) (slots seat q : ℕ) (old new : SlotSat K) (w : K) → old ≡ (hand_with old.0.handed q, (q, None) ∷ [])
      → IsHandedAt state deals old.0.handed q w → new ≡ (old.0, (q, Some w) ∷ rest old.1)
      → Allows (KeptSlots state deals handed) slots seat new q (λ _. 0) (lays_down {K = K} (step slots q 0 0 none) new)
  lays_filled handed slots seat q old new w taken worker_is is =
      let now : new ≡ (hand_with old.0.handed q, (q, Some w) ∷ []) = is ∙ ap (λ (m : SlotSat K). (m.0, (q, Some w) ∷ rest m.1)) taken in
      subst (λ (m : SlotSat K). Allows (KeptSlots state deals handed) slots seat m q (λ _. 0) (lays_down {K = K} (step slots q 0 0 none) m)) (sym now)
      (lays_allowed state deals handed old.0.handed slots seat q w worker_is)
