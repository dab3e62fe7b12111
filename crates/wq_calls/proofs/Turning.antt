-- Slots that go behind the others of a hand, and chairs that are alike but for the hand.
use Rattle.wq_calls.proofs.Common.{◌≡◌, ℕ, zero, suc, ◌+◌, ◌<◌, List, [], ◌∷◌, ◌++◌, map, length, refl, sym, ap, ◌∙◌, subst, arith, append_assoc}
use Rattle.wq_calls.proofs.Common.{append-nil, TableId, accepted, begun, ValuePart, Hand, ValueStanding, Learns, slot_number, HasHand, OwnsSlots}
use Rattle.wq_calls.proofs.Common.{TurnsHands}
use mathlib.Core.List.{map-append}
use Rattle.atomic_table.specs.Table.{turned}
use Rattle.wq_table.specs.Plays.{tail_of}
use Rattle.wq_table.specs.SlotChairs.{TurnsHand}
use Rattle.wq_calls.specs.Hands.{turns}
use Rattle.wq_calls.proofs.OwnerHands.{each_append}

module _ {V : Type 0} where
  -- slots in front go behind the others by as many turns
  pub turned_behind : (t : ValuePart V) (xs ys : List ℕ) (c : Hand V) → HasHand t c (xs ++ ys) → HasHand t (turns (length xs) c) (ys ++ xs)
  turned_behind t [] ys c has = subst (HasHand t c) (sym (append-nil ys)) has
  turned_behind t (x ∷ xs) ys [] has = absurd (cc has.numbers_are)
  turned_behind t (x ∷ xs) ys (a ∷ c) has =
      let front : a.0 ≡ x = cc has.numbers_are in
      let behind : map slot_number c ≡ xs ++ ys = ap tail_of has.numbers_are in
      let again : HasHand t (c ++ a ∷ []) (xs ++ (ys ++ x ∷ [])) = record {
        numbers_are = map-append slot_number c (a ∷ []) ∙ ((λ i. behind i ++ front i ∷ []) ∙ append_assoc xs ys (x ∷ []));
        each = each_append t.part.layout.items (length (begun t.part.seen)) (accepted t.part.seen) t.brought c (a ∷ []) has.each.1 (has.each.0, tt);
      } in
      subst (HasHand t (turns (length xs) (c ++ a ∷ []))) (append_assoc ys (x ∷ []) xs) (turned_behind t xs (ys ++ x ∷ []) (c ++ a ∷ []) again)

  turns_none : (n : ℕ) (c : Hand V) → c ≡ [] → turns n c ≡ []
  turns_none zero c e = e
  turns_none (suc n) c e = turns_none n (turned c) (ap turned e)

  pub turns_slots : (n : ℕ) (xs ys : List ℕ) (old new : ValueStanding V) → n ≡ length xs → TurnsHands n old new → OwnsSlots old (xs ++ ys)
      → OwnsSlots new (ys ++ xs)
  turns_slots n xs ys old new count t slots = record {
    some = λ deep. subst (λ (z : ValuePart V × Hand V). HasHand z.0 z.1 (ys ++ xs))
        (λ i. (sym t.first_is i, sym (t.hand_is ∙ ap (λ (k : ℕ). turns k old.hand) count) i))
        (turned_behind old.first xs ys old.hand (slots.some (subst (λ (q : TableId). 0 < q.slots) t.queue_is deep)));
    none = λ bare. t.hand_is ∙ turns_none n old.hand (slots.none (subst (λ (q : TableId). q.slots ≡ 0) t.queue_is bare));
  }

  -- one turn more
  pub turns_more : (n : ℕ) (c : Hand V) → turns (suc n) c ≡ turned (turns n c)
  turns_more zero c = refl
  turns_more (suc n) c = turns_more n (turned c)

  -- the chair is the same but for its hand
  pub learns_to : (a b c : ValueStanding V) → c.queue ≡ b.queue → c.first ≡ b.first → c.others ≡ b.others → Learns 0 a b → Learns 0 a c
  learns_to a b c queue first others l =
      let same : record c { hand = b.hand } ≡ b = λ i. record { queue = queue i; first = first i; others = others i; hand = b.hand } in
      let m : Learns 0 a (record c { hand = b.hand }) = subst (Learns 0 a) (sym same) l in
      record { follow = m.follow; brought = m.brought; know = m.know; told = m.told; right = m.right }

  pub turns_on : (n : ℕ) (a b c : ValueStanding V) → TurnsHands n a b → TurnsHand b c → TurnsHands (n + 1) a c
  turns_on n a b c t u = let one : suc n ≡ n + 1 = omega arith in record {
    queue_is = u.queue_is ∙ t.queue_is;
    first_is = u.first_is ∙ t.first_is;
    others_are = u.others_are ∙ t.others_are;
    hand_is = u.hand_is ∙ (ap turned t.hand_is ∙ (sym (turns_more n a.hand) ∙ ap (λ (k : ℕ). turns k a.hand) one));
  }
