-- Two chairs whose table may have slots meet.
use Rattle.wq_table.proofs.Common.{◌≡◌, ℕ, arith, [], ◌∷◌, ◌++◌, map, sym, ap, ◌∙◌, subst, TableId, Layout, Inside, see, all_see, AllOf, ValueView}
use Rattle.wq_table.proofs.Common.{plain_view, AllKnow, telling, front_values, rest_values, ValueSat, ValuesSeen, ValueStanding, value_standing}
use Rattle.wq_table.proofs.Common.{ValueSits}
use Rattle.wq_table.specs.SlotChairs.{ValueMeet}
use Rattle.wq_table.proofs.SlotTold.{with_seat, sits_known}

module _ {V : Type 0} (this that : ValueStanding V) (me other both sees : ValueSat V) (has : me ≡ (this.first ∷ this.others, this.hand))
    (other_has : other ≡ (that.first ∷ that.others, that.hand)) (alone : that.others ≡ []) (joined : both ≡ (other.0 ++ me.0, me.1))
    (slots : ℕ) (deep : slots ≡ this.queue.slots) (all : ValuesSeen slots both sees) where
  parts : both.0 ≡ that.first ∷ this.first ∷ this.others
  parts = ap (λ (z : ValueSat V). z.0) joined ∙
      (λ i. (ap (λ (z : ValueSat V). z.0) other_has ∙ ap (λ (v : ValueView V). that.first ∷ v) alone) i ++ ap (λ (z : ValueSat V). z.0) has i)

  -- what they see: the other's part comes first
  pub now_is : sees.0 ≡ telling all.brought (see all.machine.history that.first.part)
      ∷ telling all.brought (see all.machine.history this.first.part) ∷ map (telling all.brought) (all_see all.machine.history (plain_view this.others))
  now_is = all.is ∙ ap (λ (v : ValueView V). map (telling all.brought) (all_see all.machine.history (plain_view v))) parts

  pub met_slots : (q r : TableId) (l k : Layout) (mine theirs : ValueSat V) → that.hand ≡ [] → mine ≡ (rest_values sees.0, sees.1)
      → theirs ≡ (front_values sees.0, [])
      → q ≡ this.queue → r ≡ that.queue → this.queue ≡ that.queue → ValueMeet this that (with_seat q l mine) (with_seat r k theirs)
  met_slots q r l k mine theirs empty rest first same other_same one =
      let m = all.machine in
      let fit : AllOf m (plain_view (that.first ∷ this.first ∷ this.others)) = subst (λ (v : ValueView V). AllOf m (plain_view v)) parts all.all in
      let know : AllKnow all.brought (that.first ∷ this.first ∷ this.others) = subst (AllKnow all.brought) parts all.know in
      let hand : sees.1 ≡ this.hand = all.hand ∙ (ap (λ (z : ValueSat V). z.1) joined ∙ ap (λ (z : ValueSat V). z.1) has) in
      let mine_is : mine ≡ (rest_values sees.0, sees.1) = rest in
      let mine_now = mine_is ∙ (λ i. (ap rest_values now_is i, hand i)) in
      let theirs_now = first ∙ (λ i. (ap front_values now_is i, sym empty i)) in record {
        machine = m;
        sound = all.sound;
        queue_is = one;
        this_fits = record { fits = fit.1.0; others_fit = fit.1.1 };
        that_fits = record { fits = fit.0; others_fit = subst (λ (v : ValueView V). AllOf m (plain_view v)) (sym alone) tt };
        brought = all.brought;
        as_many = all.as_many;
        right = λ some_slot. all.right (omega (arith, some_slot, deep));
        this_knows = know.1;
        that_knows = (know.0, subst (AllKnow all.brought) (sym alone) tt);
        this_is = λ i. with_seat (same i) l (mine_now i);
        that_is = (λ i. with_seat (other_same i) k (theirs_now i)) ∙
            (λ i. record {
              queue = that.queue;
              first = telling all.brought (see m.history that.first.part);
              others = map (telling all.brought) (all_see m.history (plain_view (sym alone i)));
              hand = that.hand;
            });
      }

  pub sits_met : (mine : ValueSat V) (s t : Inside V) → mine ≡ (rest_values sees.0, sees.1) → ValueSits s → value_standing s ≡ this → t.words ≡ s.words
      → t.spare ≡ s.spare → t.layout ≡ s.layout → t.seat.table_id ≡ s.seat.table_id → t.seat.me ≡ mine → ValueSits t
  sits_met mine s t rest sits is words spare layout table at = sits_known all.machine all.brought this s t sits is words spare layout table
      (ap (λ (z : ValueSat V). z.0) (at ∙ rest) ∙ ap rest_values now_is)

  pub sits_cut : (theirs : ValueSat V) (s t : Inside V) → theirs ≡ (front_values sees.0, []) → ValueSits s → value_standing s ≡ that → t.words ≡ s.words
      → t.spare ≡ s.spare → t.layout ≡ s.layout → t.seat.table_id ≡ s.seat.table_id → t.seat.me ≡ theirs → ValueSits t
  sits_cut theirs s t first sits is words spare layout table at = sits_known all.machine all.brought that s t sits is words spare layout table
      (ap (λ (z : ValueSat V). z.0) (at ∙ first) ∙ (ap front_values now_is ∙
      ap (λ (w : ValueView V). telling all.brought (see all.machine.history that.first.part) ∷ map (telling all.brought) (all_see all.machine.history
      (plain_view w))) (sym alone)))
