-- Two chairs whose table may have slots become one.
use Rattle.wq_table.proofs.Common.{◌≡◌, ℕ, arith, [], ◌∷◌, ◌++◌, map, sym, refl, ap, ◌∙◌, subst, Some, append-nil, TableId, Layout, Inside, View, see}
use Rattle.wq_table.proofs.Common.{all_see, AllOf, ValueView, plain_view, AllKnow, telling, front_values, rest_values, ValueSat, ValuesSeen}
use Rattle.wq_table.proofs.Common.{ValueStanding, first_told, value_standing, AreSized, ValueSits}
use Rattle.wq_table.specs.SlotChairs.{ValueJoined}
use Rattle.wq_table.proofs.Told.{sized_seeing}
use Rattle.wq_table.proofs.ValueRule.{plain_telling}
use Rattle.wq_table.proofs.SlotTold.{with_seat, sized_in, whole_view}

-- the part of this chair goes out, that chair's parts come in, and its own part comes back in front of them
module _ {V : Type 0} (this that : ValueStanding V) (me other left mine more both sees : ValueSat V)
    (has : me ≡ (this.first ∷ this.others, this.hand)) (other_has : other ≡ (that.first ∷ that.others, that.hand)) (alone : this.others ≡ [])
    (cut : left ≡ (rest_values me.0, me.1)) (front : mine ≡ (front_values me.0, [])) (came : more ≡ (other.0 ++ left.0, left.1))
    (joined : both ≡ (mine.0 ++ more.0, more.1)) (slots : ℕ) (deep : slots ≡ this.queue.slots) (all : ValuesSeen slots both sees) where
  none_left : left.0 ≡ []
  none_left = ap (λ (z : ValueSat V). z.0) cut ∙ (ap (λ (z : ValueSat V). rest_values z.0) has ∙ alone)

  they_are : more.0 ≡ that.first ∷ that.others
  they_are = ap (λ (z : ValueSat V). z.0) came ∙
      ((λ i. ap (λ (z : ValueSat V). z.0) other_has i ++ none_left i) ∙ append-nil (that.first ∷ that.others))

  parts : both.0 ≡ this.first ∷ that.first ∷ that.others
  parts = ap (λ (z : ValueSat V). z.0) joined ∙
      (λ i. (ap (λ (z : ValueSat V). z.0) front ∙ ap (λ (z : ValueSat V). front_values z.0) has) i ++ they_are i)

  hand_stays : sees.1 ≡ this.hand
  hand_stays = all.hand ∙ (ap (λ (z : ValueSat V). z.1) joined ∙
      (ap (λ (z : ValueSat V). z.1) came ∙ (ap (λ (z : ValueSat V). z.1) cut ∙ ap (λ (z : ValueSat V). z.1) has)))

  now_are : sees.0 ≡ map (telling all.brought) (all_see all.machine.history (this.first.part ∷ that.first.part ∷ plain_view that.others))
  now_are = all.is ∙ ap (λ (v : ValueView V). map (telling all.brought) (all_see all.machine.history (plain_view v))) parts

  fit : AllOf all.machine (plain_view (this.first ∷ that.first ∷ that.others))
  fit = subst (λ (v : ValueView V). AllOf all.machine (plain_view v)) parts all.all

  pub joined_slots : (q : TableId) (l : Layout) → q ≡ this.queue → ValueJoined this that (with_seat q l sees)
  joined_slots q l same =
      let know : AllKnow all.brought (this.first ∷ that.first ∷ that.others) = subst (AllKnow all.brought) parts all.know in record {
        machine = all.machine;
        sound = all.sound;
        this_fits = record { fits = fit.0; others_fit = subst (λ (v : ValueView V). AllOf all.machine (plain_view v)) (sym alone) tt };
        that_fits = record { fits = fit.1.0; others_fit = fit.1.1 };
        brought = all.brought;
        as_many = all.as_many;
        right = λ some_slot. all.right (omega (arith, some_slot, deep));
        this_knows = (know.0, subst (AllKnow all.brought) (sym alone) tt);
        that_knows = know.1;
        queue_is = same;
        first_is = ap (first_told l) now_are;
        others_are = ap rest_values now_are;
        hand_is = hand_stays;
      }

  -- the layout of both chairs is the machine's
  one_layout : (s t : Inside V) → ValueSits s → value_standing s ≡ this → ValueSits t → value_standing t ≡ that → t.layout ≡ s.layout
  one_layout s t sits is other_sits other_is = sym (sized_in t that other_sits other_is).0 ∙ (fit.1.0.layout_is ∙
      (sym fit.0.layout_is ∙ (sized_in s this sits is).0))

  -- the chair that has both: that one's words are kept for a second chair
  pub sits_joined : (s t b : Inside V) → ValueSits s → value_standing s ≡ this → ValueSits t → value_standing t ≡ that → that.queue ≡ this.queue
      → b.words ≡ s.words → b.spare ≡ Some t.words → b.layout ≡ s.layout → b.seat.table_id ≡ s.seat.table_id → b.seat.me ≡ sees → ValueSits b
  sits_joined s t b sits is other_sits other_is queue words spare layout table at =
      let layouts = one_layout s t sits is other_sits other_is in
      let ids : s.seat.table_id ≡ t.seat.table_id =
      ap (λ (x : ValueStanding V). x.queue) is ∙ (sym queue ∙ sym (ap (λ (x : ValueStanding V). x.queue) other_is)) in
      let v : View = this.first.part ∷ that.first.part ∷ plain_view that.others in
      let view : plain_view b.seat.me.0 ≡ all_see all.machine.history v =
      ap (λ (z : ValueSat V). plain_view z.0) at ∙ (ap plain_view now_are ∙ plain_telling all.brought (all_see all.machine.history v)) in
      let sized : AreSized s.layout v = (
        (sized_in s this sits is).0,
        subst (λ (l : Layout). AreSized l (that.first.part ∷ plain_view that.others)) layouts (sized_in t that other_sits other_is),
      ) in record {
        seated = rw words (table ∙ sits.seated);
        wide = rw (words, layout) sits.wide;
        deep = rw (words, layout) sits.deep;
        keyed = rw (words, layout) sits.keyed;
        sized = subst (λ (z : Layout × View). AreSized z.0 z.1) (λ i. (sym layout i, sym view i)) (sized_seeing s.layout all.machine.history v sized);
        one_view = whole_view b.layout b.seat.me.0 (see all.machine.history this.first.part) (all_see all.machine.history
            (that.first.part ∷ plain_view that.others)) view;
        spare_is = rw (spare, table, layout) (ids ∙ other_sits.seated, other_sits.keyed ∙ layouts);
        has_spare = λ more. rw spare refl;
      }
