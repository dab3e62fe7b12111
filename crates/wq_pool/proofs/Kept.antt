-- Each step of a seat keeps the rule of the slots.
use Rattle.std.proofs.lemmas.Option.{none-some}
use mathlib.Core.Option.{some, none, some-injective, some-ne-none}
use mathlib.Core.Logic.{dite}
use native.Mathlib.Decide.{ℕ_discrete}
use prog.Atomic.{either}
use lib.ListN.{get_elem?}
use lib.Seq.{set-get_or}
use Rattle.atomic_table.proofs.Lists.{at_set, at_snoc, set_here, set_else, set_again}
use Rattle.wq_pool.proofs.Common.{◌≡◌, ℕ, zero, suc, ◌<◌, Bool, cond, eqb, ◌≢◌, List, [], ◌∷◌, map, length, get_or, set, replicate, Some, None, MatchBool}
use Rattle.wq_pool.proofs.Common.{Option, sym, refl, ap, ◌∙◌, subst, inl, inr, arith, length-set, get_or-set_other, get_or-set_same, eq-eqb, ne_eqb, length-map}
use Rattle.wq_pool.proofs.Common.{length-replicate, step, Allows, State, keeps, takes, gives, Act, Enters, stepped, opening, carried_after, Valid, WorkerState}
use Rattle.wq_pool.proofs.Common.{HandedIn, handed_of, seen_by, id_of, IsHandedAt, KeptSlots, empty_hand, hand_with, SlotSat, picks_up, lays_down, comes_in}
use Rattle.wq_pool.specs.declared.slots.QueueHand.{QueueHand}
use Rattle.wq_words.proofs.Prefixes.{prefix_self}
use Rattle.wq_worker.specs.Rows.{here}

abbrev SlotsNow : Type 0 → Type 0
SlotsNow K = State (Option K) (QueueHand K)

-- a hand is empty or has one queue
empty_has : {K : Type 0} (handed : HandedIn K) (hand : QueueHand K) (q : ℕ) → empty_hand handed ≡ hand → hand.queue ≡ Some q → ⊥
empty_has {K = K} handed hand q is has = none-some q (ap (λ (h : QueueHand K). h.queue) is ∙ has)

queue_in : Option ℕ → ℕ
queue_in None = 0
queue_in (Some q) = q

one_queue : {K : Type 0} (handed : HandedIn K) (hand : QueueHand K) (q k : ℕ) → hand_with handed q ≡ hand → hand.queue ≡ Some k → q ≡ k
unfolding queue_in
one_queue {K = K} handed hand q k is has = ap queue_in (ap (λ (h : QueueHand K). h.queue) is ∙ has)

handed_of_hand : {K : Type 0} (handed : HandedIn K) (hand : QueueHand K) → empty_hand handed ≡ hand → hand.handed ≡ handed
handed_of_hand {K = K} handed hand is = ap (λ (h : QueueHand K). h.handed) (sym is)

lone_seat : {K : Type 0} (handed : HandedIn K) (seat : ℕ) (hand : QueueHand K) → get_elem? (empty_hand handed ∷ []) seat ≡ some hand → empty_hand handed ≡ hand
lone_seat handed zero hand at = some-injective (empty_hand handed) hand at
lone_seat handed (suc seat) hand at = absurd (some-ne-none hand (sym at))

module _ {K W : Type 0} (state : K → WorkerState W) (deals : K → K → Type 0) where
  pub comes_allowed : (handed : HandedIn K) (slots q : ℕ)
      → Enters (KeptSlots state deals handed) slots q (λ n hand. comes_in {K = K} (step slots q 0 0 none) (empty_hand handed, []) n (hand, []))
  comes_allowed handed slots q s kept deep small = (
    empty_hand handed,
    record {
      words_count = kept.words_count;
      slots_count = kept.slots_count;
      keeper = kept.keeper;
      in_slot = kept.in_slot;
      told = λ seat hand at. elim (at_snoc s.views (empty_hand handed) hand seat at) [
        | inl old ↦ kept.told seat hand old
        | inr is ↦ handed_of_hand handed hand is
      ];
      in_hand = λ seat hand at k has. elim (at_snoc s.views (empty_hand handed) hand seat at) [
        | inl old ↦ kept.in_hand seat hand old k has
        | inr is ↦ absurd (empty_has handed hand k is has)
      ];
    },
    refl,
  )

  -- what a picking up leaves, where the queue was in its slot or not
  abbrev Leaves : HandedIn K → ℕ → ℕ → SlotsNow K → Bool → Type 0
  Leaves handed seat q s found = (hand : QueueHand K) × (act : Act (Option K)) × Valid s.homes [] act
      × KeptSlots state deals handed (stepped s q (either found 1 (get_or s.words q 0)) seat [] hand act)
      × MatchBool found ((hand ≡ hand_with handed q) × (w : K) × (carried_after [] act ≡ (q, Some w) ∷ []) × IsHandedAt state deals handed q w)
      (◌≡◌ {A = SlotSat K} (hand, carried_after [] act) (empty_hand handed, []))

  abbrev picked_state : HandedIn K → ℕ → ℕ → SlotsNow K → SlotsNow K
  picked_state handed seat q s = record { words = set s.words q 1; homes = set s.homes q none; views = set s.views seat (hand_with handed q) }

  picked : (handed : HandedIn K) (seat q : ℕ) (s : SlotsNow K) → q < length handed.workers → KeptSlots state deals handed s → get_or s.words q 0 ≡ 0
      → KeptSlots state deals handed (picked_state handed seat q s)
  picked handed seat q s within kept free =
      let wide = kept.words_count in
      record {
        words_count = length-set s.words q 1 ∙ kept.words_count;
        slots_count = length-set s.homes q none ∙ kept.slots_count;
        keeper = λ k. cond (eqb k q) seat (kept.keeper k);
        in_slot = λ k low is_zero. dite (ℕ_discrete k q)
            (λ same. let one : get_or (set s.words q 1) q 0 ≡ 1 = get_or-set_same s.words q 1 0 (omega arith) in
            let none_left : get_or (set s.words q 1) q 0 ≡ 0 = subst (λ (z : ℕ). get_or (set s.words q 1) z 0 ≡ 0) same is_zero in absurd (omega arith))
            (λ other. let old = kept.in_slot k low (sym (get_or-set_other s.words q k 1 0 (λ e. other (omega arith))) ∙ is_zero) in
            (old.0, set_else s.homes q k none other ∙ old.1, old.2));
        told = λ i hand at. elim (at_set s.views seat i (hand_with handed q) hand at) [
          | inl mine ↦ ap (λ (h : QueueHand K). h.handed) (sym mine.1)
          | inr old ↦ kept.told i hand old.1
        ];
        in_hand = λ i hand at k has. elim (at_set s.views seat i (hand_with handed q) hand at) [
          | inl mine ↦
              subst (λ (z : ℕ). (z < length handed.workers) × (get_or (set s.words q 1) z 0 ≡ 1) × (cond (eqb z q) seat (kept.keeper z) ≡ i))
              (one_queue handed hand q k mine.1 has)
              (within, get_or-set_same s.words q 1 0 (omega arith), ap (λ b. cond b seat (kept.keeper q)) (eq-eqb q q refl) ∙ sym mine.0)
          | inr old ↦
              let held = kept.in_hand i hand old.1 k has in let one = held.1 in
              let apart : k ≢ q = λ e. let is_zero : get_or s.words k 0 ≡ 0 = subst (λ (z : ℕ). get_or s.words z 0 ≡ 0) (sym e) free in omega arith in
              (held.0, get_or-set_other s.words q k 1 0 (λ e. apart (omega arith)) ∙ held.1, ap (λ b. cond b seat (kept.keeper k)) (ne_eqb k q apart) ∙ held.2)
        ];
      }

  missed : (handed : HandedIn K) (seat q : ℕ) (s : SlotsNow K) → KeptSlots state deals handed s → get_elem? s.views seat ≡ some (empty_hand handed)
      → KeptSlots state deals handed record { words = set s.words q (get_or s.words q 0); homes = s.homes; views = set s.views seat (empty_hand handed) }
  missed handed seat q s kept at =
      subst (λ (t : SlotsNow K). KeptSlots state deals handed t)
      (λ i. record { words = sym (set-get_or s.words q 0) i; homes = s.homes; views = sym (set_again s.views seat (empty_hand handed) at) i }) kept

  picks_empty : (handed : HandedIn K) (slots seat q : ℕ) → q < length handed.workers
      → Allows (KeptSlots state deals handed) slots seat (empty_hand handed, []) q (λ n. either (eqb n 0) 1 n)
      (picks_up state deals (step slots q 0 1 none) (empty_hand handed, []))
  picks_empty handed slots seat q within s kept deep at small =
      let n = get_or s.words q 0 in
      dite (ℕ_discrete n 0)
      (λ free. let lies = kept.in_slot q within free in
      subst (Leaves handed seat q s) (sym (eq-eqb n 0 free))
      (hand_with handed q, takes q (Some lies.0), lies.1, picked handed seat q s within kept free, (refl, lies.0, refl, lies.2)))
      (λ out. subst (Leaves handed seat q s) (sym (ne_eqb n 0 out)) (empty_hand handed, keeps, tt, missed handed seat q s kept at, refl))

  pub picks_allowed : (handed : HandedIn K) (slots seat q : ℕ) (me : SlotSat K) → q < length handed.workers → me ≡ (empty_hand handed, [])
      → Allows (KeptSlots state deals handed) slots seat me q (λ n. either (eqb n 0) 1 n) (picks_up state deals (step slots q 0 1 none) me)
  picks_allowed handed slots seat q me within is =
      subst (λ (m : SlotSat K).
      Allows (KeptSlots state deals handed) slots seat m q (λ n. either (eqb n 0) 1 n) (picks_up state deals (step slots q 0 1 none) m))
      (sym is)
      (picks_empty handed slots seat q within)

  pub lays_allowed : (handed mine : HandedIn K) (slots seat q : ℕ) (w : K) → IsHandedAt state deals mine q w
      → Allows (KeptSlots state deals handed) slots seat (hand_with mine q, (q, Some w) ∷ []) q (λ _. 0)
      (lays_down {K = K} (step slots q 0 0 none) (hand_with mine q, (q, Some w) ∷ []))
  lays_allowed handed mine slots seat q w worker_is s kept deep at small =
      let mine_is : mine ≡ handed = kept.told seat (hand_with mine q) at in
      let held = kept.in_hand seat (hand_with mine q) at q refl in
      let within = held.0 in let wide = kept.words_count in let homes = kept.slots_count in (
        empty_hand mine,
        gives,
        tt,
        record {
          words_count = length-set s.words q 0 ∙ kept.words_count;
          slots_count = length-set s.homes q (some (Some w)) ∙ kept.slots_count;
          keeper = kept.keeper;
          in_slot = λ k low is_zero. dite (ℕ_discrete k q)
              (λ same. subst
              (λ (z : ℕ). (v : K) × (get_elem? (set s.homes q (some (Some w))) z ≡ some (some (Some v))) × IsHandedAt state deals handed z v) (sym same)
              (w, set_here s.homes q (some (Some w)) (omega arith), subst (λ (ids : HandedIn K). IsHandedAt state deals ids q w) mine_is worker_is))
              (λ other. let old = kept.in_slot k low (sym (get_or-set_other s.words q k 0 0 (λ e. other (omega arith))) ∙ is_zero) in
              (old.0, set_else s.homes q k (some (Some w)) other ∙ old.1, old.2));
          told = λ i hand at'. elim (at_set s.views seat i (empty_hand mine) hand at') [
            | inl own ↦ ap (λ (h : QueueHand K). h.handed) (sym own.1) ∙ mine_is
            | inr old ↦ kept.told i hand old.1
          ];
          in_hand = λ i hand at' k has. elim (at_set s.views seat i (empty_hand mine) hand at') [
            | inl own ↦ absurd (empty_has mine hand k own.1 has)
            | inr old ↦
                let theirs = kept.in_hand i hand old.1 k has in let other = old.0 in
                let apart : k ≢ q = λ e. other (sym theirs.2 ∙ ap kept.keeper e ∙ held.2) in
                (theirs.0, get_or-set_other s.words q k 0 0 (λ e. apart (omega arith)) ∙ theirs.1, theirs.2)
          ];
        },
        refl,
      )

  at_start : (ws : List K) (q : ℕ) → q < length (map (id_of state) ws)
      → (w : K) × (get_elem? (map some (map Some ws)) q ≡ some (some (Some w))) × IsHandedAt state deals (handed_of state ws) q w
  at_start [] q low = absurd (omega arith)
  at_start (w ∷ ws) zero low =
      (w, refl, record { worker_is = refl; goes_on = record { old = w; old_is = refl; begins = prefix_self (seen_by state w); along = here w } })
  at_start (w ∷ ws) (suc q) low =
      let t = at_start ws q (omega arith) in let on = t.2.goes_on in
      (t.0, t.1, record { worker_is = t.2.worker_is; goes_on = record { old = on.old; old_is = on.old_is; begins = on.begins; along = on.along } })

  -- the slots are made
  pub opens : (ws : List K) (words : List ℕ) (slots : List (Option K)) → words ≡ replicate (length ws) 0 → slots ≡ map Some ws
      → KeptSlots state deals (handed_of state ws) (opening words slots (empty_hand (handed_of state ws)))
  opens ws words slots words_are slots_are =
      let handed = handed_of state ws in
      subst (λ (z : List ℕ × List (Option K)). KeptSlots state deals handed (opening z.0 z.1 (empty_hand handed)))
      (λ i. (sym words_are i, sym slots_are i)) record {
        words_count = length-replicate (length ws) 0 ∙ sym (length-map ws (id_of state));
        slots_count = length-map (map Some ws) some ∙ (length-map ws Some ∙ sym (length-map ws (id_of state)));
        keeper = λ _. 0;
        in_slot = λ q low is_zero. at_start ws q low;
        told = λ seat hand at. handed_of_hand handed hand (lone_seat handed seat hand at);
        in_hand = λ seat hand at q has. absurd (empty_has handed hand q (lone_seat handed seat hand at) has);
      }
