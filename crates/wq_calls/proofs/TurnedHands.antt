-- The hand of an owner that walks what it took and turns its links.
use Rattle.wq_calls.proofs.Common.{◌≡◌, ℕ, ◌+◌, List, [], ◌∷◌, ◌++◌, length, Option, Some, None, refl, sym, ap, ◌∙◌, subst, arith, inl, inr, ⊎_elim}
use Rattle.wq_calls.proofs.Common.{length-append, append-nil, owner_seat, Walk, Turn, number_at, Part, ValuePart, Stage, Owns, HasStage, ValueStanding}
use Rattle.wq_calls.proofs.Common.{ValueSteps, Learns, LearnsOrStays, learns_step, Row, Stands, OnlySees, HasBoth, kept_batch, walking, IsRowOf}
use Rattle.wq_calls.proofs.Common.{OwnsSlots, TurnsHands}
use Rattle.wq_calls.specs.Hands.{TurnedSlots, turns}
use Rattle.wq_calls.proofs.Linking.{Turning, turning_first, turning_next, turned_tells, on}
use Rattle.wq_calls.proofs.OwnerTells.{makes_stands}
use Rattle.wq_calls.proofs.Hanging.{taken_behind}
use Rattle.wq_calls.proofs.OwnerHands.{walk_slots, slots_told, slots_see, same_hand}
use Rattle.wq_calls.proofs.Turning.{turns_slots, learns_to}

-- the seat is the owner's
pub stands_mine : (p : Part) (cursor : Option ℕ) (walked ks : List ℕ) → Stands p → p.stage ≡ Owns cursor walked ks → p.seat ≡ owner_seat
stands_mine p cursor walked ks stands is = (subst (HasStage stands.machine p.seat) is stands.fits.keeps).0

-- from old to new what was taken is walked as far as the number that comes next, and its slots are in front of those of the batch
pub record TurningSlots {V : Type 0} (ks : List ℕ) (next : Option ℕ) (row : Row) (old new : ValueStanding V) : Type 0 where
  pub turning : Turning ks next row old.first.part new.first.part
  pub slots : OwnsSlots new (row.front ∷ (turning.rest ++ ks))

module _ {V : Type 0} where
  pub first_turned : (k found : ℕ) (ks : List ℕ) (old new : ValueStanding V) → Stands old.first.part → old.first.part.stage ≡ Owns (Some k) [] ks
      → ValueSteps 0 None Walk found old new → OwnsSlots old ks → TurningSlots ks (number_at found) (record { front = k; last = k; count = 1 }) old new
  unfolding turning_first
  first_turned k found ks old new stands stage s slots = record {
    turning = turning_first k found old.first.part new.first.part ks stage s.steps.moves.makes;
    slots = walk_slots found k [] ks ks old new (stands_mine old.first.part (Some k) [] ks stands stage) stage s slots;
  }

  module _ (ks : List ℕ) (next : Option ℕ) (number found : ℕ) (row : Row) (old now t new : ValueStanding V) (stands : Stands now.first.part)
      (turns : TurningSlots ks next row old now) (is : next ≡ Some number) (walks : ValueSteps 0 None Walk found now t)
      (turn : ValueSteps 0 None (Turn number (Some row.front)) (row.front + 1) t new) where
    pub next_turned : TurningSlots ks (number_at found) (record { front = number; last = row.last; count = row.count + 1 }) old new
    unfolding turning_next
    next_turned =
        let p = old.first.part in let q = now.first.part in let makes = walks.steps.moves.makes in let turned = turn.steps.moves.makes in
        let there = makes_stands Walk found q t.first.part makes in
        let stage = on ks next number found row p q turns.turning is t.first.part there makes in
        let mine = stands_mine q (Some number) (row.front ∷ turns.turning.rest) ks stands stage in record {
          turning = turning_next ks next number found row p q turns.turning is t.first.part there makes new.first.part turned;
          slots = slots_told t new (number ∷ (row.front ∷ (turns.turning.rest ++ ks))) (makes.seat_is ∙ mine) [] 0
              (learns_step 0 None (Turn number (Some row.front)) (row.front + 1) t new turn)
              (turned_tells ks next number found row p q turns.turning is t.first.part there makes new.first.part turned) refl
              (same_hand 0 None (Turn number (Some row.front)) (row.front + 1) t new turn (λ moves. moves.1))
              (walk_slots found number (row.front ∷ turns.turning.rest) ks (row.front ∷ (turns.turning.rest ++ ks)) now t mine stage walks turns.slots);
        }

  -- all is walked
  pub all_turned : (ks : List ℕ) (next : Option ℕ) (row : Row) (old new : ValueStanding V) → next ≡ None → TurningSlots ks next row old new
      → TurnedSlots ks row old new
  all_turned ks next row old new none turns = let turning = turns.turning in record {
    turned = record {
      taken = row.front ∷ turning.rest;
      stage_is = turning.stage_is ∙ ap (λ (n : Option ℕ). walking n (row.front ∷ turning.rest) ks) none;
      row_is = record { count_is = omega (arith, turning.count_is); spells = (refl, turning.links) };
      old_row = turning.old_row;
    };
    slots = turns.slots;
  }

  -- nothing was taken
  pub none_turned : (ks : List ℕ) (first : Option ℕ) (it : ValueStanding V) → first ≡ None → it.first.part.stage ≡ walking first [] ks → OwnsSlots it ks
      → TurnedSlots ks (record { front = 0; last = 0; count = 0 }) it it
  none_turned ks first it none stage slots = record {
    turned = record {
      taken = [];
      stage_is = stage ∙ ap (λ (n : Option ℕ). walking n [] ks) none;
      row_is = record { count_is = refl; spells = tt };
      old_row = λ row has. has;
    };
    slots = slots;
  }

  -- what was taken, turned, and hung behind what waited
  module _ (ks : List ℕ) (first : Option ℕ) (taken : Row) (old now then : ValueStanding V) (stage : old.first.part.stage ≡ walking first [] ks)
      (is : TurnedSlots ks taken old now) (turn : TurnsHands taken.count now then) where
    pub both_hung : (row : Row) → IsRowOf old.first.part.words row ks → HasBoth row taken then.first.part
    both_hung row has = subst (λ (t : ValuePart V). HasBoth row taken t.part) (sym turn.first_is)
        (taken_behind ks row taken old.first.part now.first.part has is.turned)

    pub stands_turned : Stands now.first.part → Stands then.first.part
    stands_turned stands = subst (λ (t : ValuePart V). Stands t.part) (sym turn.first_is) stands

    -- where the chair stayed nothing was taken
    none_taken : now ≡ old → taken.count ≡ 0
    none_taken same =
        let stays : walking first [] ks ≡ Owns None [] (ks ++ is.turned.taken) =
        sym (ap (λ (z : ValueStanding V). z.first.part.stage) same ∙ stage) ∙ is.turned.stage_is in
        go first stays
      where
        go : (n : Option ℕ) → walking n [] ks ≡ Owns None [] (ks ++ is.turned.taken) → taken.count ≡ 0
        go None e = omega (
          arith,
          ap (λ (st : Stage). length (kept_batch st)) e,
          length-append ks is.turned.taken,
          ap (λ (l : List ℕ). length l) (append-nil ks),
          is.turned.row_is.count_is,
        )
        go (Some k) e = absurd (cc e)

    pub turned_learns : LearnsOrStays 0 old now → LearnsOrStays 0 old then
    turned_learns learns = ⊎_elim
        (λ (e : now ≡ old).
        let count = none_taken e in
        let same : then ≡ now = λ i. record {
          queue = turn.queue_is i;
          first = turn.first_is i;
          others = turn.others_are i;
          hand = (turn.hand_is ∙ ap (λ (n : ℕ). turns n now.hand) count) i;
        } in
        inl (same ∙ e))
        (λ (l : Learns 0 old now). inr (learns_to old now then turn.queue_is turn.first_is turn.others_are l)) learns

    pub stage_turned : then.first.part.stage ≡ Owns None [] (ks ++ is.turned.taken)
    stage_turned = ap (λ (t : ValuePart V). t.part.stage) turn.first_is ∙ is.turned.stage_is

    pub turned_follows : OnlySees old.first.part now.first.part → OnlySees old.first.part then.first.part
    turned_follows follows = subst (λ (t : ValuePart V). OnlySees old.first.part t.part) (sym turn.first_is) follows

    pub hung_slots : (new : ValueStanding V) → Stands then.first.part → LearnsOrStays 0 then new → OnlySees then.first.part new.first.part
        → new.first.part.stage ≡ then.first.part.stage → new.hand ≡ then.hand → OwnsSlots new (kept_batch new.first.part.stage)
    hung_slots new stands learns follows stays hand =
        let whole : List ℕ = ks ++ is.turned.taken in
        let mine = stands_mine then.first.part None [] whole stands stage_turned in
        subst (OwnsSlots new) (sym (ap kept_batch (stays ∙ stage_turned)))
        (slots_see then new whole mine learns follows hand (turns_slots taken.count is.turned.taken ks now then is.turned.row_is.count_is turn is.slots))
