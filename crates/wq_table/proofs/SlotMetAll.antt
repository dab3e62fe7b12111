-- Three chairs whose table may have slots meet.
use Rattle.wq_table.proofs.Common.{◌≡◌, ℕ, arith, [], ◌∷◌, ◌++◌, map, sym, ap, ◌∙◌, subst, TableId, Layout, see, all_see, AllOf, ValueView}
use Rattle.wq_table.proofs.Common.{plain_view, AllKnow, telling, front_values, rest_values, ValueSat, ValuesSeen, ValueStanding}
use Rattle.wq_table.specs.SlotChairs.{ValueMeetAll}
use Rattle.wq_table.proofs.SlotTold.{with_seat, known_view}
use Rattle.wq_table.proofs.SlotMet.{now_is}

module _ {V : Type 0} (this that third : ValueStanding V) (me other other3 both full sees : ValueSat V) (has : me ≡ (this.first ∷ this.others, this.hand))
    (other_has : other ≡ (that.first ∷ that.others, that.hand)) (third_has : other3 ≡ (third.first ∷ third.others, third.hand))
    (alone : that.others ≡ []) (third_alone : third.others ≡ []) (joined : both ≡ (other.0 ++ me.0, me.1)) (joined3 : full ≡ (other3.0 ++ both.0, both.1))
    (slots : ℕ) (deep : slots ≡ this.queue.slots) (seen : ValuesSeen slots full sees) where
  -- the first two as one chair
  abbrev two : ValueStanding V
  two = record { queue = this.queue; first = that.first; others = this.first ∷ this.others; hand = this.hand }

  two_has : both ≡ (two.first ∷ two.others, two.hand)
  two_has = joined ∙ (λ i. (
    (ap (λ (z : ValueSat V). z.0) other_has ∙
        ap (λ (v : ValueView V). that.first ∷ v) alone) i ++ ap (λ (z : ValueSat V). z.0) has i,
    ap (λ (z : ValueSat V). z.1) has i,
  ))

  parts : full.0 ≡ third.first ∷ that.first ∷ this.first ∷ this.others
  parts = ap (λ (z : ValueSat V). z.0) joined3 ∙
      (λ i. (ap (λ (z : ValueSat V). z.0) third_has ∙ ap (λ (v : ValueView V). third.first ∷ v) third_alone) i ++ ap (λ (z : ValueSat V). z.0) two_has i)

  three_is : sees.0 ≡ telling seen.brought (see seen.machine.history third.first.part)
      ∷ telling seen.brought (see seen.machine.history that.first.part)
      ∷ map (telling seen.brought) (all_see seen.machine.history (plain_view (this.first ∷ this.others)))
  three_is = now_is two third both other3 full sees two_has third_has third_alone joined3 slots deep seen

  module _ (cut mine theirs thirds : ValueSat V) (rest : cut ≡ (rest_values sees.0, sees.1)) (first : thirds ≡ (front_values sees.0, []))
      (rest2 : mine ≡ (rest_values cut.0, cut.1)) (first2 : theirs ≡ (front_values cut.0, [])) where
    cut_is : cut.0 ≡ rest_values sees.0
    cut_is = ap (λ (z : ValueSat V). z.0) rest

    pub mine_view : mine.0 ≡ known_view seen.machine seen.brought this
    mine_view = ap (λ (z : ValueSat V). z.0) rest2 ∙ (ap rest_values cut_is ∙ ap (λ (v : ValueView V). rest_values (rest_values v)) three_is)

    pub their_view : theirs.0 ≡ known_view seen.machine seen.brought that
    their_view = ap (λ (z : ValueSat V). z.0) first2 ∙ (ap front_values cut_is ∙ (ap (λ (v : ValueView V). front_values (rest_values v)) three_is ∙
        ap (λ (w : ValueView V). telling seen.brought (see seen.machine.history that.first.part) ∷ map (telling seen.brought) (all_see seen.machine.history
        (plain_view w))) (sym alone)))

    pub third_view : thirds.0 ≡ known_view seen.machine seen.brought third
    third_view = ap (λ (z : ValueSat V). z.0) first ∙ (ap front_values three_is ∙
        ap (λ (w : ValueView V). telling seen.brought (see seen.machine.history third.first.part) ∷ map (telling seen.brought) (all_see seen.machine.history
        (plain_view w))) (sym third_alone))

    pub met_all : (q r u : TableId) (l k j : Layout) → that.hand ≡ [] → third.hand ≡ [] → q ≡ this.queue → r ≡ that.queue → u ≡ third.queue
        → this.queue ≡ that.queue → this.queue ≡ third.queue
        → ValueMeetAll this that third (with_seat q l mine) (with_seat r k theirs) (with_seat u j thirds)
    met_all q r u l k j empty third_empty same other_same third_same that_one third_one =
        let m = seen.machine in
        let fit : AllOf m (plain_view (third.first ∷ that.first ∷ this.first ∷ this.others)) =
        subst (λ (v : ValueView V). AllOf m (plain_view v)) parts seen.all in
        let know : AllKnow seen.brought (third.first ∷ that.first ∷ this.first ∷ this.others) = subst (AllKnow seen.brought) parts seen.know in
        let hand : mine.1 ≡ this.hand = ap (λ (z : ValueSat V). z.1) rest2 ∙ (ap (λ (z : ValueSat V). z.1) rest ∙ (seen.hand ∙
        (ap (λ (z : ValueSat V). z.1) joined3 ∙ ap (λ (z : ValueSat V). z.1) two_has))) in record {
          machine = m;
          sound = seen.sound;
          that_queue = that_one;
          third_queue = third_one;
          this_fits = record { fits = fit.1.1.0; others_fit = fit.1.1.1 };
          that_fits = record { fits = fit.1.0; others_fit = subst (λ (v : ValueView V). AllOf m (plain_view v)) (sym alone) tt };
          third_fits = record { fits = fit.0; others_fit = subst (λ (v : ValueView V). AllOf m (plain_view v)) (sym third_alone) tt };
          brought = seen.brought;
          as_many = seen.as_many;
          right = λ some_slot. seen.right (omega (arith, some_slot, deep));
          this_knows = know.1.1;
          that_knows = (know.1.0, subst (AllKnow seen.brought) (sym alone) tt);
          third_knows = (know.0, subst (AllKnow seen.brought) (sym third_alone) tt);
          this_is = λ i. with_seat (same i) l (mine_view i, hand i);
          that_is = λ i. with_seat (other_same i) k (their_view i, (ap (λ (z : ValueSat V). z.1) first2 ∙ sym empty) i);
          third_is = λ i. with_seat (third_same i) j (third_view i, (ap (λ (z : ValueSat V). z.1) first ∙ sym third_empty) i);
        }
