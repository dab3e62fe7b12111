-- The slot of what begins is emptied, and that of a chained item filled.
use Rattle.wq_calls.proofs.Common.{◌≡◌, ◌≢◌, ℕ, ◌<◌, ◌==◌, Bool, true, false, List, [], ◌∷◌, ◌++◌, map, length, slice_get, Option, Some, None}
use Rattle.wq_calls.proofs.Common.{MatchBool, if◌then◌else◌, eq-eqb, ne_eqb, sym, refl, ap, ◌∙◌, subst, arith, ⊎_elim, append_assoc, IsPrefix, TableId}
use Rattle.wq_calls.proofs.Common.{rest, Event, Layout, accepted, begun, owner_seat, own, Grows, Carries, accepted-append, slice_get_last, in_order}
use Rattle.wq_calls.proofs.Common.{prefix_length, slice_get-prefix, begun_same, Chain, Machine, after, item_word, with_item, happened, Stage, Owns}
use Rattle.wq_calls.proofs.Common.{ValuePart, seat_at, Hand, ValueStanding, ValueSteps, Learns, LearnsOrStays, learns_step, learns_or, learns_more}
use Rattle.wq_calls.proofs.Common.{Known, batch, next_of, Owning as Inside, owner_view, OwnsQueue, Stands, OnlySees, kept_batch, slot_number, HasHand}
use Rattle.wq_calls.proofs.Common.{OwnsSlots}
use mathlib.Core.List.{map-append}
use Rattle.atomic_table.specs.Table.{turned}
use Rattle.wq_words.specs.declared.event.Event.TheVariants as event
use Rattle.wq_words.proofs.Prefixes.{prefix_self}
use Rattle.wq_table.specs.SlotSteps.{IsBrought}
use Rattle.wq_table.specs.SlotChairs.{HasSlot, Exchanges, TurnsHand}
use Rattle.wq_calls.specs.Hands.{OwnsEmptied}
use Rattle.wq_calls.specs.KnownWith.{IsChained}
use Rattle.wq_calls.proofs.Tells.{Tells}
use Rattle.wq_calls.proofs.OwnerTells.{owner_batch}
use Rattle.wq_calls.proofs.Hanging.{first_of_row}
use Rattle.wq_calls.proofs.OwnerHands.{front_brought, same_hand, begun_still, accepted_on, each_append, hand_on, slots_see}
use Rattle.wq_calls.proofs.Turning.{learns_to}

-- the row's front is what begins next
module _ (s : Inside) (o : OwnsQueue s) (waits : batch s.chair.part.seen ≢ []) where
  pub front_waits : (others : List ℕ) × (s.chair.part.stage ≡ Owns None [] (s.row.front ∷ others))
  front_waits = go (kept_batch s.chair.part.stage) (owner_batch s (owner_view s) refl o) o.has_row.row_is.count_is
    where
      go : (ks : List ℕ) → ks ≡ batch s.chair.part.seen → s.row.count ≡ length ks → (others : List ℕ) ×
          (s.chair.part.stage ≡ Owns None [] (s.row.front ∷ others))
      go [] is count = absurd (waits (sym is))
      go (k ∷ ks) is count = let front = first_of_row s.row s.chair.part o.has_row (omega (arith, count)) in (front.0, front.1)

  pub front_begins : (n : ℕ) → next_of s.chair.part.seen ≡ Some n → s.row.front ≡ n
  front_begins n next =
      let whole : s.row.front ∷ front_waits.0 ≡ batch s.chair.part.seen = sym (ap kept_batch front_waits.1) ∙ owner_batch s (owner_view s) refl o in
      let both : Some s.row.front ≡ Some n = ap (λ (xs : List ℕ). slice_get xs 0) whole ∙ next in cc both

module _ {V : Type 0} where
  -- the slot of the first of the batch is in front
  pub front_slot : (k : ℕ) (ks : List ℕ) (it : ValueStanding V) → 0 < it.queue.slots → OwnsSlots it (k ∷ ks) → HasSlot k it.hand
  front_slot k ks it deep slots = go it.hand (slots.some deep).numbers_are
    where
      go : (c : Hand V) → map slot_number c ≡ k ∷ ks → HasSlot k c
      go [] is = absurd (cc is)
      go (x ∷ xs) is = let same : x.0 ≡ k = cc is in (x.1, λ i. (same i, x.1) ∷ xs)

  -- it is emptied, and what lay in it is what the number brought
  module _ (k : ℕ) (ks : List ℕ) (y : Option V) (old mid : ValueStanding V) (deep : 0 < old.queue.slots) (stage : old.first.part.stage ≡ Owns None [] (k ∷ ks))
      (slots : OwnsSlots old (k ∷ ks)) (x : Exchanges k None y old mid) where
    has : HasHand old.first ((k, y) ∷ rest old.hand) (k ∷ ks)
    has = subst (λ (c : Hand V). HasHand old.first c (k ∷ ks)) x.was (slots.some deep)

    -- so it is empty when it begins
    pub emptied_slot : OwnsEmptied mid k ks
    emptied_slot = record {
      some = λ deep'. (
        x.is ∙ ap (λ (c : Hand V). (k, None) ∷ c) (sym (ap rest x.is)),
        subst (λ (z : ValuePart V × Hand V). HasHand z.0 z.1 ks) (λ i. (sym x.first_is i, sym (ap rest x.is) i))
            (record { numbers_are = cc (has.numbers_are); each = has.each.1 }),
      );
      none = λ bare. absurd (omega (arith, deep, ap (λ (q : TableId). q.slots) x.queue_is, bare));
    }

    pub emptied_value : (brs : List (Option V)) → Stands old.first.part → IsPrefix old.first.brought brs
        → slice_get brs (length (begun old.first.part.seen)) ≡ Some y
    emptied_value brs stands more = slice_get-prefix old.first.brought brs (length (begun old.first.part.seen)) y more
        (front_brought k ks old.first.part stands stage old.first.brought y has.each.0)

    pub emptied_kind : (layout : Layout) → old.first.part.layout ≡ layout → Carries layout.items k y
    emptied_kind layout is = subst (λ (l : Layout). Carries l.items k y) is has.each.0.kind

  -- a chaining that finds the bit set moves no slot
  pub busy_hand : (k w : ℕ) (said : Option V) (old new : ValueStanding V) → w ≢ 0 → ValueSteps 0 said (Chain k) w old new → new.hand ≡ old.hand
  busy_hand k w said old new busy s = same_hand 0 said (Chain k) w old new s (λ moves.
      (subst (λ (b : Bool). MatchBool b ((s.brought' ≡ s.brought ++ said ∷ []) × (new.hand ≡ (k, None) ∷ old.hand))
      ((s.brought' ≡ s.brought) × (new.hand ≡ old.hand))) (ne_eqb w 0 busy) moves).1)

  -- else the slot of the item comes in front
  module _ (k w : ℕ) (v : V) (ns : List ℕ) (old mid : ValueStanding V) (mine : old.first.part.seat ≡ owner_seat)
      (stage : old.first.part.stage ≡ Owns None [] ns) (deep : 0 < old.queue.slots) (clear : w ≡ 0) (s : ValueSteps 0 (Some v) (Chain k) w old mid)
      (told : Tells (event.Chain k ∷ []) old.first.part mid.first.part) where
    abbrev before : Machine
    before = s.steps.moves.makes.before

    came : (s.brought' ≡ s.brought ++ Some v ∷ []) × (mid.hand ≡ (k, None) ∷ old.hand)
    came = subst (λ (b : Bool). MatchBool b ((s.brought' ≡ s.brought ++ Some v ∷ []) × (mid.hand ≡ (k, None) ∷ old.hand))
        ((s.brought' ≡ s.brought) × (mid.hand ≡ old.hand))) (eq-eqb w 0 clear) (s.moves deep)

    pub chained_slot : HasSlot k mid.hand
    chained_slot = (None, came.1 ∙ ap (λ (c : Hand V). (k, None) ∷ c) (sym (ap rest came.1)))

    seen_is : mid.first.part.seen ≡ before.history ++ event.Chain k ∷ []
    seen_is =
        let p = old.first.part in let makes = s.steps.moves.makes in
        let zero : item_word before k ≡ 0 = sym makes.word_is ∙ clear in
        makes.seen_is ∙ (ap (λ (st : Stage). (after before (seat_at p.seat st) (Chain k)).history) stage ∙
        finds (item_word before k == 0) (eq-eqb (item_word before k) 0 zero))
      where
        finds : (b : Bool) → b ≡ true
            → (if b then happened (record (with_item before k 1) { batch = before.batch ++ k ∷ [] }) (event.Chain k) else happened before
            (event.ChainBusy k)).history
            ≡ before.history ++ event.Chain k ∷ []
        finds true e = refl
        finds false e = absurd (cc e)

    brought_is : mid.first.brought ≡ s.brought ++ Some v ∷ []
    brought_is = s.told.0 ∙ came.0

    accepted_is : accepted mid.first.part.seen ≡ accepted before.history ++ k ∷ []
    accepted_is = ap accepted seen_is ∙ accepted-append before.history (event.Chain k ∷ [])

    pub chained_value : slice_get mid.first.brought (length (accepted before.history)) ≡ Some (Some v)
    chained_value = subst (λ (n : ℕ). slice_get mid.first.brought n ≡ Some (Some v)) s.as_many
        (subst (λ (l : List (Option V)). slice_get l (length s.brought) ≡ Some (Some v)) (sym brought_is) (slice_get_last s.brought (Some v) []))

    grows : Grows owner_seat (event.Chain k ∷ []) 0 old.first.part.seen mid.first.part.seen
    grows = subst (λ (c : ℕ). Grows c (event.Chain k ∷ []) 0 old.first.part.seen mid.first.part.seen) mine told.grows

    still : begun mid.first.part.seen ≡ begun old.first.part.seen
    still = begun_still (event.Chain k ∷ []) 0 old.first.part.seen mid.first.part.seen grows refl

    chained_brought : k < old.first.part.layout.items
        → IsBrought mid.first.part.layout.items (length (begun mid.first.part.seen)) (accepted mid.first.part.seen) mid.first.brought k (Some v)
    chained_brought item =
        let p = old.first.part in let makes = s.steps.moves.makes in let m = before in
        let was : begun m.history ≡ begun p.seen =
        begun_same p.seen m.history (subst (λ (c : ℕ). own c m.history ≡ own c p.seen) mine makes.fits.mine) in
        let few = prefix_length (begun m.history) (accepted m.history) (in_order m.layout m.history makes.sound.legal).begun_first in
        let items : mid.first.part.layout.items ≡ p.layout.items = ap (λ (l : Layout). l.items) told.layout_is in record {
          place = length (accepted m.history);
          later = omega (arith, few, ap length was, ap length still);
          stands = subst (λ (l : List ℕ). slice_get l (length (accepted m.history)) ≡ Some k) (sym accepted_is) (slice_get_last (accepted m.history) k []);
          has = chained_value;
          kind = (λ low. (v, refl), λ high. absurd (omega (arith, high, items, item)));
        }

    -- it is filled, and goes behind the others
    module _ (y : Option V) (filled put : ValueStanding V) (x : Exchanges k (Some v) y mid filled) (turn : TurnsHand filled put) where
      pub put_first : put.first ≡ mid.first
      put_first = turn.first_is ∙ x.first_is

      pub put_queue : put.queue ≡ mid.queue
      put_queue = turn.queue_is ∙ x.queue_is

      pub put_learns : Learns 0 old put
      put_learns = learns_to old mid put put_queue put_first (turn.others_are ∙ x.others_are) (learns_step 0 (Some v) (Chain k) w old mid s)

      put_hand : put.hand ≡ old.hand ++ (k, Some v) ∷ []
      put_hand = turn.hand_is ∙ (ap turned x.is ∙ ap (λ (c : Hand V). rest c ++ (k, Some v) ∷ []) came.1)

      put_has : k < old.first.part.layout.items → HasHand old.first old.hand ns → HasHand mid.first (old.hand ++ (k, Some v) ∷ []) (ns ++ k ∷ [])
      put_has item was =
          let now = hand_on old.first mid.first old.hand old.hand ns told.layout_is (ap length still)
          (accepted_on owner_seat (event.Chain k ∷ []) 0 old.first.part.seen mid.first.part.seen grows)
          (learns_more 0 old mid (learns_step 0 (Some v) (Chain k) w old mid s)) refl was in record {
            numbers_are = map-append slot_number old.hand ((k, Some v) ∷ []) ∙ ap (λ (l : List ℕ). l ++ k ∷ []) was.numbers_are;
            each = each_append mid.first.part.layout.items (length (begun mid.first.part.seen)) (accepted mid.first.part.seen) mid.first.brought old.hand
                ((k, Some v) ∷ []) now.each (chained_brought item, tt);
          }

      pub put_slots : k < old.first.part.layout.items → OwnsSlots old ns → OwnsSlots put (ns ++ k ∷ [])
      put_slots item slots = record {
        some = λ deep'. subst (λ (z : ValuePart V × Hand V). HasHand z.0 z.1 (ns ++ k ∷ [])) (λ i. (sym put_first i, sym put_hand i))
            (put_has item (slots.some deep));
        none = λ bare. absurd (omega (arith, deep, ap (λ (q : TableId). q.slots) (put_queue ∙ s.steps.queue_is), bare));
      }

      -- and is hung
      module _ (new : ValueStanding V) (stands : Stands put.first.part) (learns : LearnsOrStays 0 put new)
          (follows : OnlySees put.first.part new.first.part) where
        pub hung_follows : OnlySees mid.first.part new.first.part
        hung_follows = subst (λ (t : ValuePart V). OnlySees t.part new.first.part) put_first follows

        pub hung_chained : k < old.first.part.layout.items → OwnsSlots old ns → new.first.part.stage ≡ mid.first.part.stage
            → mid.first.part.stage ≡ Owns None [] (ns ++ k ∷ []) → new.hand ≡ put.hand → OwnsSlots new (kept_batch new.first.part.stage)
        hung_chained item slots stays kept hand =
            let seat : put.first.part.seat ≡ owner_seat = ap (λ (t : ValuePart V). t.part.seat) put_first ∙ (told.seat_is ∙ mine) in
            subst (OwnsSlots new) (sym (ap kept_batch (stays ∙ kept)))
            (slots_see put new (ns ++ k ∷ []) seat learns follows hand (put_slots item slots))

        told_more : IsPrefix mid.first.brought new.first.brought
        told_more = subst (λ (t : ValuePart V). IsPrefix t.brought new.first.brought) put_first (⊎_elim
            (λ (e : new ≡ put). subst (λ (z : ValueStanding V). IsPrefix put.first.brought z.first.brought) (sym e) (prefix_self put.first.brought))
            (λ (l : Learns 0 put new). learns_more 0 put new l) learns)

        pub hung_value : (known : Known) → known.seen ≡ new.first.part.seen → IsChained k v (record { known = known; brought = new.first.brought })
        hung_value known seen =
            let g = follows.grows in let h = before.history in
            let seat : put.first.part.seat ≡ owner_seat = ap (λ (t : ValuePart V). t.part.seat) put_first ∙ (told.seat_is ∙ mine) in
            let was : put.first.part.seen ≡ h ++ event.Chain k ∷ [] = ap (λ (t : ValuePart V). t.part.seen) put_first ∙ seen_is in record {
              before = h;
              after = g.new;
              is = seen ∙ (g.is ∙ (ap (λ (l : List Event). l ++ g.new) was ∙ append_assoc h (event.Chain k ∷ []) g.new));
              last = subst (λ (c : ℕ). own c g.new ≡ []) seat g.mine;
              has = slice_get-prefix mid.first.brought new.first.brought (length (accepted h)) (Some v) told_more chained_value;
            }

        pub hung_learns : Learns 0 old new
        hung_learns = learns_or 0 old put new put_learns learns
